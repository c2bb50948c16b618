-- The steps so far, before what the definition says of the rest, are the whole; the measure is what is left of the bytes.
-- Assumes nothing.
use Rattle.std.proofs.Common.{◌-◌, length}
use Rattle.form.specs.Form.{form_no}
use Rattle.query_steps.proofs.Turns.{Turn}
use Rattle.query_steps.proofs.take_apart.Given as goal

abbrev pub invariant-loop-at : goal.invariant-loop-at
invariant-loop-at l = Turn (form_no l.form) l.q l.query l.at

abbrev pub decreases-loop-at : goal.decreases-loop-at
decreases-loop-at l = length l.q - l.at
