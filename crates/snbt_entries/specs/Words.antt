-- Keys by their tokens (rule 15): those that the lexer found, and the usual key, which is known without one.
-- Assumes nothing.
use Rattle.std.specs.Prelude.{ℕ, ◌+◌, ◌-◌, ◌≤◌, ◌<◌, ◌≡◌, false, List, length, Option, Some, None}
use Rattle.form.specs.Answer.{got}
use Rattle.form.specs.Spans.{part}
use Rattle.snbt_form.specs.Lexing.{default, key, string, colon, TokenData, found, skip, made, token_at, content_of}

-- The token of an unquoted string from i up to j, of ASCII characters only.
abbrev pub word_data : ℕ → ℕ → TokenData
word_data i j = record { token = string false i j; index = i; width = j - i }

-- Where a key is due at i, which is not blank, that token stands with its `:` right behind it; it is its own content, and not over 65,535 bytes.
pub record Worded (t : List ℕ) (i j : ℕ) : Type 0 where
  pub order : i ≤ j
  pub within : j < length t
  pub short : j - i ≤ 65535
  pub here : skip t i ≡ i
  pub token : token_at key t i ≡ got (found (word_data i j) j)
  pub behind : token_at default t j ≡ got (made colon j 1 (j + 1))
  pub content : content_of t false i j ≡ got (part t i (j - i))

-- A usual key that is found is one; nothing is said where none is found, since any key may go by its token.
abbrev pub WordedIs : List ℕ → ℕ → Option ℕ → Type 0
WordedIs t i (Some j) = Worded t i j
WordedIs t i None = Unit {0}
