-- What writing a string token's content asks and leaves (rules 2 and 12).
-- Assumes nothing.
use Rattle.std.specs.Prelude.{ℕ, ◌+◌, ◌-◌, ◌≤◌, ◌<◌, Bool, ◌≡◌, List, leb, length}
use Rattle.form.specs.Answer.{Out, got, no, ◌>>=◌, ◌>>◌, guard, output_full}
use Rattle.form.specs.Spans.{part, over}
use Rattle.snbt_form.specs.Lexing.{content_of}

-- The content of a token stands, and there is room for it at a place of the output.
pub record Ready (t : List ℕ) (quoted : Bool) (start e : ℕ) (o : List ℕ) (at : ℕ) : Type 0 where
  pub bytes : List ℕ
  pub is : content_of t quoted start e ≡ got bytes
  pub within : (start ≤ e) × (e ≤ length t)
  pub fits : at + length bytes ≤ length o

-- The content's bytes stand at the place, all else is as it was, and the answer is the place behind them.
abbrev pub PutIs : Out (List ℕ) → List ℕ → ℕ → ℕ → List ℕ → Type 0
PutIs (got bs) o at r o' = (r ≡ at + length bs) × (o' ≡ over o at bs)
PutIs (no n p) o at r o' = Unit {0}

-- A span of fewer than 64 bytes is its own content, within quotes or not.
pub record Verbatim (t : List ℕ) (start e : ℕ) : Type 0 where
  pub short : e < start + 64
  pub is : (quoted : Bool) → content_of t quoted start e ≡ got (part t start (e - start))

-- A content, or 13 where there is no room for it.
abbrev pub fitted : Out (List ℕ) → ℕ → Out (List ℕ)
fitted x room = do
  bs ← x
  guard (leb (length bs) room) output_full 0
  got bs
