-- Each name before the one at hand is less.
use Rattle.std.proofs.Common.{◌-◌}
use Rattle.nbt_siblings.proofs.Ascents.{Climbing}
use Rattle.nbt_siblings.proofs.sorting.rising.Given as goal

abbrev pub invariant-loop-i : goal.invariant-loop-i
invariant-loop-i l = Climbing l.doc l.table l.first l.stop l.i

abbrev pub decreases-loop-i : goal.decreases-loop-i
decreases-loop-i l = l.stop - l.i
