-- Nothing odd up to k says that those bytes fit.
-- Assumes nothing.
use Rattle.std.proofs.Common.{◌≡◌}
use Rattle.mutf8.specs.Runs.{Fitting}
use Rattle.mutf8.proofs.blocks.all_fit.Given as goal

abbrev pub invariant-loop-k : goal.invariant-loop-k
invariant-loop-k l = l.top ≡ 0 → Fitting l.s l.at l.k
