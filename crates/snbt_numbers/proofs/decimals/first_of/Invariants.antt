-- What is looked for from i on is what was looked for at the start.
use Rattle.std.proofs.Common.{◌≡◌, ◌+◌}
use Rattle.snbt_numbers.proofs.Firsts.{ahead}
use Rattle.snbt_numbers.proofs.decimals.first_of.Given as goal

abbrev pub invariant-loop-i : goal.invariant-loop-i
invariant-loop-i l = l.i + ahead l.x l.y l.text l.i l.to ≡ l.at + ahead l.x l.y l.text l.at l.to
