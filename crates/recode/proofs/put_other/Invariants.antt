-- What was written is the characters up to i.
-- Assumes nothing.
use Rattle.std.proofs.Common.{ℕ, ◌≤◌, ◌-◌, List, length}
use Rattle.form.specs.Form.{way_no}
use Rattle.recode.specs.Steps.{Puts}
use Rattle.recode.proofs.Characters.{Come}
use Rattle.recode.proofs.put_other.Given as goal

abbrev pub invariant-loop-i : goal.invariant-loop-i
invariant-loop-i l = (bs : List ℕ) × (l.i ≤ length l.s) × Puts bs l.fn.out l.at l.out l.here × Come (way_no l.way) l.s l.i bs

abbrev pub decreases-loop-i : goal.decreases-loop-i
decreases-loop-i l = length l.s - l.i
