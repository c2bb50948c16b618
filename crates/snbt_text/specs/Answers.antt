-- The answer to whether a text is fine as that of the definition.
-- Assumes nothing.
use Rattle.std.specs.Prelude.{Result, Ok, Err}
use Rattle.form.specs.Answer.{Out, got, no}
use Rattle.form.specs.Refusals.{number_of}
use Rattle.form.specs.declared.refusals.Refusal.{Refusal}

-- A text that is fine, or its refusal, which has no place.
abbrev pub text_out : Result (Unit {0}) Refusal → Out (Unit {0})
text_out (Ok _) = got tt
text_out (Err r) = no (number_of r) 0
