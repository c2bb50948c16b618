-- What a turn of a list and of a compound leaves behind: the definitions that contracts cite and that name no enum of the code.
-- Assumes nothing.
use Rattle.std.specs.Prelude.{ℕ, zero, suc, ◌+◌, ◌-◌, ◌*◌, ◌≤◌, ◌≡◌, List, [], ◌∷◌, ◌++◌, eqb, length, take}
use Rattle.form.specs.Answer.{Out, got, no, ◌>>=◌, ◌>>◌, guard, too_deep, unexpected_token, text_ends, depth_limit}
use Rattle.form.specs.Spans.{over}
use Rattle.form.specs.Tree as tree
use Rattle.form.specs.Tree.{Entries, kind_of, many, entry}
use Rattle.form.specs.Layout.{payload, element_bytes, string_bytes, layout}
use Rattle.snbt_key_text.specs.Keys.{KeyRoom}
use Rattle.snbt_entries.specs.Entries.{Entered, stops, enters}
use Rattle.snbt_form.specs.Lexing.{default}
use Rattle.snbt_form.specs.Text.{Value, Row, Block, Then, closes, Reads, sign_of, due, alike, compound_at, value_at, document_of}

-- A text within its limit, room for a word for each three bytes of it, and room for a key.
pub record Ready (t keys buffer : List ℕ) : Type 0 where
  pub text_le : length t ≤ 1048576
  pub keys_ge : length t ≤ 3 * length keys
  pub buffer_ge : KeyRoom (length t) (length buffer)

-- What a value's container reads its own values by.
abbrev pub inner : List ℕ → ℕ → ℕ → Reads
inner t room zero = λ want x n u. no too_deep x.index
inner t room (suc d) = value_at t room d

-- Elements of a list were read: on to `next`, their bytes stand from `at` up to `used`, and all else is as it was.
pub record Ran (res : Out Row) (o : List ℕ) (at next used count : ℕ) (o' : List ℕ) : Type 0 where
  pub row : Row
  pub same : res ≡ got row
  pub next_is : next ≡ row.next
  pub used_is : used ≡ row.used
  pub count_is : count ≡ many row.tags
  pub size_is : used ≡ at + length (element_bytes row.tags)
  pub fits : used ≤ length o
  pub wrote : o' ≡ over o at (element_bytes row.tags)

-- What is written of what stands where a key is due.
abbrev pub entered_bytes : Entered → List ℕ
entered_bytes (stops i n) = []
entered_bytes (enters s v th) = kind_of v.tag ∷ string_bytes s ++ payload v.tag

-- What follows it.
abbrev pub then_of : Entered → Then
then_of (stops i n) = closes i n
then_of (enters s v th) = th

-- The bytes used behind it.
abbrev pub used_of : Entered → ℕ → ℕ
used_of (stops i n) u = u
used_of (enters s v th) u = v.used

-- It stands before some entries.
abbrev pub before : Entered → Entries → Entries
before (stops i n) es = es
before (enters s v th) es = entry s v.tag es

-- Its name stands before some names.
abbrev pub name_before : Entered → List (List ℕ) → List (List ℕ)
name_before (stops i n) ns = ns
name_before (enters s v th) ns = s ∷ ns

-- One turn was made: what was entered stands from `at` up to `used`, `th` follows it, and all else is as it was.
pub record Turned (res : Out Entered) (o : List ℕ) (at used : ℕ) (th : Then) (o' : List ℕ) : Type 0 where
  pub entered : Entered
  pub same : res ≡ got entered
  pub then_is : then_of entered ≡ th
  pub used_is : used ≡ used_of entered at
  pub size_is : used ≡ at + length (entered_bytes entered)
  pub fits : used ≤ length o
  pub wrote : o' ≡ over o at (entered_bytes entered)

-- The text was read on from p to n, within its length; the keys below `top` are as they were; the bytes used stay small.
pub record Went (t k : List ℕ) (top p n used : ℕ) (k' : List ℕ) : Type 0 where
  pub around : take top k' ≡ take top k
  pub on : p ≤ n
  pub within : n ≤ length t
  pub small : used ≤ 16 * n

-- The value that the rest of a compound makes.
abbrev pub block_value : Out Block → Out Value
block_value (got b) = got (record { tag = tree.compound b.entries; next = b.next; used = b.used })
block_value (no n p) = no n p

-- A value held to its list's kind (11).
abbrev pub held : ℕ → ℕ → Out Value → Out Value
held want p (got v) = alike [] 0 want v.tag p >> got v
held want p (no n q) = no n q

-- A text that was judged.
abbrev pub root_of : List ℕ → ℕ → Out Block
root_of t room = do
  x ← due t room default 0 text_ends (length t)
  guard (eqb (sign_of x.td.token) 123) unexpected_token x.td.index
  compound_at t room depth_limit (value_at t room (depth_limit - 1)) x.td.index x.next 3

-- A document was read, and its layout stands from 0 on.
pub record Rooted (res : Out Block) (o : List ℕ) (next used : ℕ) (o' : List ℕ) : Type 0 where
  pub block : Block
  pub same : res ≡ got block
  pub next_is : next ≡ block.next
  pub used_is : used ≡ block.used
  pub wrote : o' ≡ over o 0 (layout (document_of block))
