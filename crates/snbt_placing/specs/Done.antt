-- What the contracts of values cite: each answer of the code as the definitions' one, and what is left in the output.
-- Assumes nothing.
use Rattle.std.specs.Prelude.{ℕ, ◌+◌, ◌≤◌, ◌<◌, ◌≡◌, ◌||◌, List, Result, Ok, Err, leb, eqb, length}
use Rattle.form.specs.Answer.{Out, got, no, ◌>>◌, guard, mixed_list, output_full}
use Rattle.form.specs.Refusals.{number_of}
use Rattle.form.specs.declared.refusals.Refusal.{Refusal}
use Rattle.form.specs.declared.refusals.Refused.{Refused}
use Rattle.form.specs.Spans.{over}
use Rattle.form.specs.Tree.{kind_of}
use Rattle.form.specs.Layout.{payload}
use Rattle.snbt_form.specs.Numbers.{no_nan}
use Rattle.snbt_form.specs.Lexing.{Token, open_curly, closed_curly, open_square, closed_square, comma, colon, semicolon, string, numeral, TokenData}
use Rattle.snbt_form.specs.Text.{Value}
use Rattle.snbt_placing.specs.declared.Done.{Done}

-- ---- what holds of every token of the lexer

-- A string's span lies in a text of n bytes, in order; a number carries no NaN.
abbrev pub TokenFits : Token → ℕ → Type 0
TokenFits open_curly n = Unit {0}
TokenFits closed_curly n = Unit {0}
TokenFits open_square n = Unit {0}
TokenFits closed_square n = Unit {0}
TokenFits comma n = Unit {0}
TokenFits colon n = Unit {0}
TokenFits semicolon n = Unit {0}
TokenFits (string q a e) n = (a ≤ e) × (e ≤ n)
TokenFits (numeral m) n = no_nan m

-- So it is of a token with its index and its width.
pub record Spanned (d : TokenData) (n : ℕ) : Type 0 where
  pub token : TokenFits d.token n

-- ---- a value

-- A value was read: on to `next` in the text, its payload stands in the output from `at` up to `used`, and all else is as it was.
pub record Did (res : Out Value) (o : List ℕ) (at next used kind : ℕ) (o' : List ℕ) : Type 0 where
  pub value : Value
  pub same : res ≡ got value
  pub next_is : next ≡ value.next
  pub used_is : used ≡ value.used
  pub kind_is : kind ≡ kind_of value.tag
  pub size_is : used ≡ at + length (payload value.tag)
  pub fits : used ≤ length o
  pub wrote : o' ≡ over o at (payload value.tag)

-- The code's answer agrees with the definitions' one; of the output after a refusal nothing is said, since the parse then zeroes it.
abbrev pub Agrees : Out Value → List ℕ → ℕ → Result Done Refused → List ℕ → Type 0
Agrees res o at (Ok d) o' = Did res o at d.next d.used d.kind o'
Agrees res o at (Err e) o' = res ≡ no (number_of e.refusal) e.place

-- The same of a scalar, which is put at once: a refusal leaves the output as it was.
abbrev pub Puts : Out Value → List ℕ → ℕ → Result Done Refused → List ℕ → Type 0
Puts res o at (Ok d) o' = Did res o at d.next d.used d.kind o'
Puts res o at (Err e) o' = (res ≡ no (number_of e.refusal) e.place) × (o' ≡ o)

-- A value that was accepted ends behind `start`, and within a text of m bytes.
abbrev pub Ahead : ℕ → ℕ → Result Done Refused → Type 0
Ahead start m (Ok d) = (start < d.next) × (d.next ≤ m)
Ahead start m (Err e) = Unit {0}

-- A value of some kind and size may stand at u, or is refused: its kind (11), then its room (13).
unfoldable pub admits : ℕ → ℕ → ℕ → ℕ → ℕ → ℕ → Out (Unit {0})
admits want kind room u size p = do
  guard (eqb want 0 || eqb kind want) mixed_list p
  guard (leb (u + size) room) output_full p

-- The code's answer says so, wherever the value stands.
abbrev pub AdmittedIs : ℕ → ℕ → ℕ → ℕ → ℕ → Result (Unit {0}) Refusal → Type 0
AdmittedIs want kind room u size (Ok _) = (p : ℕ) → admits want kind room u size p ≡ got tt
AdmittedIs want kind room u size (Err r) = (p : ℕ) → admits want kind room u size p ≡ no (number_of r) p

-- ---- arrays

-- The widths of an array's elements: of bytes, ints and longs.
pub data Wide : ℕ → Type 0 where
  bytes : Wide 1
  ints : Wide 4
  longs : Wide 8
