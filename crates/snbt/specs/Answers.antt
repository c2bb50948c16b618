-- The answer of a parse as that of the definitions (rules 14 and 15).
-- Assumes nothing.
use Rattle.std.specs.Prelude.{Result, Ok, Err}
use Rattle.form.specs.Answer.{Out, got, no}
use Rattle.form.specs.Refusals.{number_of}
use Rattle.form.specs.declared.refusals.Refused.{Refused}
use Rattle.snbt_form.specs.Text.{Lengths}
use Rattle.snbt.specs.declared.Parsed.{Parsed}

-- The bytes consumed and those written, or the number and the place of the refusal.
abbrev pub parsed_out : Result Parsed Refused → Out Lengths
parsed_out (Ok d) = got (record { consumed = d.consumed; written = d.written })
parsed_out (Err e) = no (number_of e.refusal) e.place
