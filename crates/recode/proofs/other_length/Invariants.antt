-- What was counted is how many bytes the characters up to i take, six for each byte at the most.
-- Assumes nothing.
use Rattle.std.proofs.Common.{◌≡◌, ℕ, ◌≤◌, ◌-◌, ◌*◌, List, length}
use Rattle.form.specs.Form.{way_no}
use Rattle.recode.proofs.Characters.{Come}
use Rattle.recode.proofs.other_length.Given as goal

abbrev pub invariant-loop-i : goal.invariant-loop-i
invariant-loop-i l = (bs : List ℕ) × (l.i ≤ length l.s) × (l.total ≡ length bs) × (l.total ≤ 6 * l.i) × Come (way_no l.way) l.s l.i bs

abbrev pub decreases-loop-i : goal.decreases-loop-i
decreases-loop-i l = length l.s - l.i
