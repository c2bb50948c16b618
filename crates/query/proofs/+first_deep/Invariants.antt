-- The answer on the records left is the answer on all. What falls: in the loop how many records are left, and in the recursion how many
-- containers may still stand within each other.
-- Assumes nothing.
use Rattle.std.proofs.Common.{◌-◌}
use Rattle.query.proofs.Depths.{Looks}
use Rattle.query.proofs.+first_deep.Given as goal

abbrev pub decreases-first_deep : goal.decreases-first_deep
decreases-first_deep l = l.left

abbrev pub invariant-loop-i : goal.invariant-loop-i
invariant-loop-i l = Looks l.table l.from l.end l.left l.i

abbrev pub decreases-loop-i : goal.decreases-loop-i
decreases-loop-i l = l.end - l.i
