-- What is claimed of reading: what is accepted is laid out as the tag layout says, all that is so laid out is accepted, and a layout
-- has one reading. The proofs are in proofs/Reading.antt, under the names given here.
-- Assumes nothing.
use Rattle.std.specs.Prelude.{ℕ, ◌+◌, ◌≤◌, ◌<◌, ◌≡◌, List, ◌++◌, length, get_or, take}
use Rattle.form.specs.Form.{Form}
use Rattle.form.specs.Answer.{got, no, document_limit}
use Rattle.form.specs.Tree.{Document, LawfulIn, entries_count}
use Rattle.form.specs.Layout.{LayoutIn, layout_in}
use Rattle.form.specs.Table.{size, value_of}
use Rattle.form.specs.Reading.{One, document_at}

-- The elements of a list are bytes.
abbrev pub Bytes : List ℕ → Type 0
Bytes doc = (i : ℕ) → get_or doc i 0 < 256

-- What an accepted read says: the bytes consumed lay out the document that the records stand for; that document keeps the rules and the
-- limits; there was room for its records, of which there is one for each tag; and the input was no longer than is allowed.
pub record Sound (form : Form) (doc : List ℕ) (room : ℕ) (x : One) : Type 0 where
  pub laid : LayoutIn form (value_of form doc x.head x.inner) (take x.next doc)
  pub lawful : LawfulIn form (value_of form doc x.head x.inner)
  pub fits : 1 + entries_count (value_of form doc x.head x.inner).root ≤ room
  pub records : size x.inner ≡ entries_count (value_of form doc x.head x.inner).root
  pub within : x.next ≤ length doc
  pub small : length doc ≤ document_limit

-- `sound`: whatever bytes are accepted, with whatever room, the answer says that.
abbrev pub IsSound : Form → Type 0
IsSound form = (doc : List ℕ) → Bytes doc → (room : ℕ) (x : One) → document_at form doc room ≡ got x → Sound form doc room x

-- What reading a layout of d gives: it is accepted, exactly the layout is consumed, and the records stand for d.
pub record Complete (form : Form) (doc : List ℕ) (room : ℕ) (d : Document) (bs : List ℕ) : Type 0 where
  pub x : One
  pub accepted : document_at form doc room ≡ got x
  pub consumed : x.next ≡ length bs
  pub tree : value_of form doc x.head x.inner ≡ d

-- `complete`: a layout of a document that keeps the rules and the limits is read so, whatever follows it, where there is room.
abbrev pub IsComplete : Form → Type 0
IsComplete form =
    (d : Document) (bs rest : List ℕ) (room : ℕ) → LayoutIn form d bs → LawfulIn form d → 1 + entries_count d.root ≤ room
    → length (bs ++ rest) ≤ document_limit → Complete form (bs ++ rest) room d bs

-- `unambiguous`: two documents whose layouts are the beginnings of one list are one document, and the layouts are one.
abbrev pub IsUnambiguous : Form → Type 0
IsUnambiguous form =
    (d₁ d₂ : Document) (bs₁ rest₁ bs₂ rest₂ : List ℕ) → LawfulIn form d₁ → LawfulIn form d₂ → LayoutIn form d₁ bs₁ → LayoutIn form d₂ bs₂
    → bs₁ ++ rest₁ ≡ bs₂ ++ rest₂ → (d₁ ≡ d₂) × (bs₁ ≡ bs₂)

-- `canonical`: the layout that a writer gives is a layout, so that every document has one.
abbrev pub IsCanonical : Form → Type 0
IsCanonical form = (d : Document) → LayoutIn form d (layout_in form d)

-- `never-zero`: a refusal has a number of document 01: the 0 that stands in a definition for a bound that runs out is never answered.
abbrev pub IsNeverZero : Form → Type 0
IsNeverZero form = (doc : List ℕ) → Bytes doc → (room p : ℕ) → document_at form doc room ≡ no 0 p → ⊥
