-- The values from `at` up to i were read one after the other.
-- Assumes nothing.
use Rattle.std.proofs.Common.{◌≤◌, ◌-◌, length}
use Rattle.form.specs.Form.{form_no}
use Rattle.form.specs.Decoding.{one_of}
use Rattle.mutf8.specs.Runs.{Walked}
use Rattle.mutf8.proofs.steps.Given as goal

abbrev pub invariant-loop-i : goal.invariant-loop-i
invariant-loop-i l = (l.at ≤ l.i) × (l.i ≤ length l.s) × Walked (one_of (form_no l.form).strings) l.s l.at l.i

abbrev pub decreases-loop-i : goal.decreases-loop-i
decreases-loop-i l = length l.s - l.i
