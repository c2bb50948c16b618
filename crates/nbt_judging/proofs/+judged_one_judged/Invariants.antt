-- The depth left falls from a container to the records in it, and between two depths `judged` calls `one_judged`. In the loop, whichever
-- records stand there, those so far and then those left are the whole.
use Rattle.std.proofs.Common.{◌≡◌, ◌+◌, ◌-◌, ◌*◌}
use Rattle.form.specs.Form.{way_no}
use Rattle.nbt_judging.specs.Steps.{Some}
use Rattle.nbt_judging.proofs.Judging.{Walk}
use Rattle.nbt_judging.proofs.+judged_one_judged.Given as goal

abbrev pub decreases-judged : goal.decreases-judged
decreases-judged l = 2 * l.left + 1

abbrev pub decreases-one_judged : goal.decreases-one_judged
decreases-one_judged l = 2 * l.left

abbrev pub invariant-judged-loop-i : goal.invariant-judged-loop-i
invariant-judged-loop-i l =
    (l.table ≡ l.initial.table)
    × ((p : Some l.doc l.initial.table l.list l.n l.end)
    → Walk (way_no l.way) l.doc l.initial.table l.left l.list l.k l.n l.end l.repeat p.forest l.i l.total)

abbrev pub decreases-judged-loop-i : goal.decreases-judged-loop-i
decreases-judged-loop-i l = l.end - l.i
