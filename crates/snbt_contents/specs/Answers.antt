-- The answers of the code as those of rule 12's definitions, case by case.
-- Assumes nothing.
use Rattle.std.specs.Prelude.{ℕ, Result}
use Rattle.form.specs.Answer.{Out}
use Rattle.form.specs.Refusals.{out_of}
use Rattle.form.specs.declared.refusals.Refused.{Refused}
use Rattle.chars.specs.declared.Character.{Character}
use Rattle.snbt_form.specs.Lexing.{Front}

-- What a content begins with: a scalar value, and how many bytes it takes.
abbrev pub decoded_is : Character → Front
decoded_is c = record { scalar = c.value; bytes = c.size }

-- The same, or a refusal's number and place.
abbrev pub decoded_out : Result Character Refused → Out Front
decoded_out r = out_of decoded_is r

-- The length of a content, or a refusal's number and place.
abbrev pub content_out : Result ℕ Refused → Out ℕ
content_out r = out_of (λ (n : ℕ). n) r
