-- The answers of the code as those of rule 12's definitions, case by case.
-- Assumes nothing.
use Rattle.std.specs.Prelude.{ℕ, Option, Some, None, Result, Ok, Err}
use Rattle.form.specs.Answer.{Out}
use Rattle.form.specs.Refusals.{number_of, out_of}
use Rattle.form.specs.declared.refusals.Refused.{Refused}
use Rattle.chars.specs.declared.Character.{Character}
use Rattle.snbt_form.specs.Lexing as rule
use Rattle.snbt_quotes.specs.declared.Closed.{Closed}

-- The number of four hexadecimal digits, or a refusal's number and place.
abbrev pub hex_out : Result ℕ Refused → Out ℕ
hex_out r = out_of (λ (v : ℕ). v) r

-- What a backslash begins.
abbrev pub escape_is : Result (Option Character) Refused → rule.Escape
escape_is (Ok (Some c)) = rule.stands c.value c.size
escape_is (Ok None) = rule.cut
escape_is (Err e) = rule.bad (number_of e.refusal) e.place

-- Where a quoted content ends, and the token's width.
abbrev pub quoted_is : Closed → rule.Quoted
quoted_is q = record { end = q.end; width = q.width.0 }

-- The same, or a refusal's number and place.
abbrev pub quoted_out : Result Closed Refused → Out rule.Quoted
quoted_out r = out_of quoted_is r
