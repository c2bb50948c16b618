-- The answer of `decimal::scaled_or_beyond` as the definition's answer.
-- Assumes nothing.
use Rattle.std.specs.Prelude.{ℕ, Option, Some, None, Float}
use Rattle.form.specs.Answer.{Out, got, no, decimal_beyond}

-- A value, or 23 at the token's place (rule 13).
abbrev pub scaled_out : Option Float → ℕ → Out Float
scaled_out (Some x) place = got x
scaled_out None place = no decimal_beyond place
