-- What the contracts of this crate cite: the public answer as the definition's, and what each step leaves.
-- Assumes nothing.
use Rattle.std.specs.Prelude.{ℕ, ◌+◌, ◌-◌, ◌*◌, ◌/◌, ◌≤◌, min, ◌≡◌, List, length, take, leb, Result, Ok, Err}
use Rattle.form.specs.Form.{Form, stays}
use Rattle.form.specs.Answer.{got, no, pick, Count, output_full}
use Rattle.form.specs.Spans.{over}
use Rattle.form.specs.Layout.{layout_in}
use Rattle.form.specs.Table.{flat}
use Rattle.form.specs.Writing.{WriteGives}
use Rattle.form.specs.Reading.{room_of, reading}
use Rattle.form.specs.Cut.{Kept, Sizes, sizes, failed, kept_of, document_of, rescuing, sizes_of, bytes_after, lines_after}
use Rattle.nbt_gather.specs.Steps.{IsCut}
use Rattle.form.specs.Refusals.{number_of}
use Rattle.nbt_rescue.specs.declared.Saved.{Saved}
use Rattle.nbt_rescue.specs.declared.Unsaved.{Unsaved}

-- 02's number and values for each case of the public answer.
abbrev pub rescue_out : Result Saved Unsaved → Sizes
rescue_out (Ok s) = sizes s.bytes s.lines
rescue_out (Err e) = failed (number_of e.refusal) e.place e.count

-- The first records of a table are what is kept of the document.
pub record GatheredIn (form : Form) (doc t : List ℕ) (records : ℕ) : Type 0 where
  pub k : Kept
  pub is : kept_of form doc (room_of (length t)) ≡ got k
  pub words_are : take (9 * records) t ≡ flat 0 0 k.forest
  pub fits : 9 * records ≤ length t

-- The layout of what is kept, where there is room for it (13), and the output with it.
abbrev pub LaidIs : Form → List ℕ → List ℕ → List ℕ → Count → List ℕ → Type 0
LaidIs form doc t o answer o' =
    (k : Kept) → kept_of form doc (room_of (length t)) ≡ got k
    → WriteGives (stays form) doc (flat 0 0 k.forest)
    (pick (leb (length (layout_in form (document_of form doc k.forest))) (length o)) (got (layout_in form (document_of form doc k.forest))) (no output_full 0)) o answer o'

-- The records are gathered, and the output has room for the cut document and a byte for each line.
pub record Roomy (form : Form) (doc t : List ℕ) (records : ℕ) (o : List ℕ) : Type 0 where
  pub gathered : GatheredIn form doc t records
  pub room : length doc + length gathered.k.lines ≤ length o

-- The layout of what is kept at the front of the output, and how long it is.
abbrev pub KeptPut : Form → List ℕ → List ℕ → List ℕ → List ℕ → ℕ → Type 0
KeptPut form doc t o o' r =
    (k : Kept) → kept_of form doc (room_of (length t)) ≡ got k
    → (r ≡ length (layout_in form (document_of form doc k.forest))) × (o' ≡ over o 0 (layout_in form (document_of form doc k.forest)))

-- How many lines may be put while a document of so many bytes is gathered, before the output is looked at: those that the list has room for,
-- if the output has a byte more than the document for each.
abbrev pub most_of : ℕ → ℕ → ℕ → ℕ
most_of doc out changes = min (out - doc) (changes / 3)

-- The records are gathered of a document that is cut, and the list has room for its lines.
pub record TightAsked (form : Form) (doc t : List ℕ) (records lines : ℕ) (c : List ℕ) : Type 0 where
  pub cut : IsCut (reading form doc t)
  pub gathered : GatheredIn form doc t records
  pub many : lines ≡ length gathered.k.lines
  pub room : lines ≤ length c / 3

-- A rescue but for the table: the answer, every byte of the output and every word of the changes.
pub record CutIs (form : Form) (doc t o c : List ℕ) (answer : Sizes) (o' c' : List ℕ) : Type 0 where
  pub answer_is : answer ≡ sizes_of (rescuing form doc t o c)
  pub output_is : o' ≡ bytes_after (rescuing form doc t o c) o
  pub changes_is : c' ≡ lines_after (rescuing form doc t o c) c
