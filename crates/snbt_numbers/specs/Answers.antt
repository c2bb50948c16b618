-- The answers of the code as the answers of the definitions, case by case.
-- Assumes nothing.
use Rattle.std.specs.Prelude.{ℕ, not, T, Result, Ok, Err, Float as Real64}
use Rattle.std.specs.Float.Ieee.{is_nan}
use Rattle.form.specs.Answer.{Out, got, no}
use Rattle.form.specs.Refusals.{number_of, out_of}
use Rattle.form.specs.declared.refusals.Refusal.{Refusal}
use Rattle.form.specs.declared.refusals.Refused.{Refused}
use Rattle.snbt_form.specs.Numbers as rule
use Rattle.snbt_numbers.specs.declared.Number.{Number}
use Rattle.snbt_numbers.specs.declared.Number.TheVariants.{Byte, Short, Int, Long, Float, Double}

-- A number of rule 13.
abbrev pub number_is : Number → rule.Number
number_is (Byte z) = rule.byte z
number_is (Short z) = rule.short z
number_is (Int z) = rule.int z
number_is (Long z) = rule.long z
number_is (Float x) = rule.float x
number_is (Double x) = rule.double x

-- What the code's number says: a number of rule 13, or a refusal's number and place.
abbrev pub number_out : Result Number Refused → Out rule.Number
number_out r = out_of number_is r

-- What the code says of a decimal: its value, or its refusal at the token's place.
abbrev pub real_out : Result Real64 Refusal → ℕ → Out Real64
real_out (Ok x) place = got x
real_out (Err r) place = no (number_of r) place

-- The code's number carries no NaN, so that its bits can be asked for.
abbrev pub quiet : Number → Type 0
quiet (Byte z) = Unit {0}
quiet (Short z) = Unit {0}
quiet (Int z) = Unit {0}
quiet (Long z) = Unit {0}
quiet (Float x) = T (not (is_nan x))
quiet (Double x) = T (not (is_nan x))
