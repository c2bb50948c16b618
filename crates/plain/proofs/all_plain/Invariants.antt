-- Nothing but 0 among k bytes says that those k are plain.
-- Assumes nothing.
use Rattle.std.proofs.Common.{◌≡◌}
use Rattle.plain.specs.Runs.{mark, plain_in}
use Rattle.plain.proofs.all_plain.Given as goal

abbrev pub invariant-loop-k : goal.invariant-loop-k
invariant-loop-k l = l.top ≡ mark (plain_in l.p l.q l.text l.at l.k)
