-- The tag layout over a form (02, [2]): which bytes lay out a tag, and the one way that a writer gives. Rules 1, 2 and 4 without their
-- refusals. Document 01's own layout is that of `java`.
-- Assumes nothing.
use Rattle.std.specs.Prelude.{ℕ, ◌≤◌, ◌≡◌, List, [], ◌∷◌, ◌++◌, ℤ, length}
use Rattle.form.specs.Form.{Form, java}
use Rattle.form.specs.Numbers.{bytes_in, bits_of}
use Rattle.form.specs.Tree.{Tag, Tags, Entries, byte, short, int, long, float, double, byte_array, string, list, compound, int_array, long_array, nil, more, ended, entry, kind_of, many, Document}

-- An integer in w bytes.
abbrev pub int_bytes_in : Form → ℕ → ℤ → List ℕ
int_bytes_in form w v = bytes_in form.order w (bits_of w v)

-- A string: a u16 length and that many bytes.
abbrev pub string_bytes_in : Form → List ℕ → List ℕ
string_bytes_in form s = bytes_in form.order 2 (length s) ++ s

-- The elements of an array, w bytes each.
unfoldable pub ints_bytes_in : Form → ℕ → List ℤ → List ℕ
ints_bytes_in form w [] = []
ints_bytes_in form w (v ∷ vs) = int_bytes_in form w v ++ ints_bytes_in form w vs

-- An array: an i32 count and the elements.
abbrev pub array_bytes_in : Form → ℕ → List ℤ → List ℕ
array_bytes_in form w vs = bytes_in form.order 4 (length vs) ++ ints_bytes_in form w vs

-- The id that a list may carry: its elements' kind, and of an empty list any id.
abbrev pub ListId : Tags → ℕ → Type 0
ListId nil id = id ≤ 12
ListId (more t ts) id = id ≡ kind_of t

-- bs lay out the payload of a tag; the elements of a list; the entries of a compound with its end byte.
unfoldable mutual
  pub PayloadIn : Form → Tag → List ℕ → Type 0
  PayloadIn form (byte v) bs = bs ≡ int_bytes_in form 1 v
  PayloadIn form (short v) bs = bs ≡ int_bytes_in form 2 v
  PayloadIn form (int v) bs = bs ≡ int_bytes_in form 4 v
  PayloadIn form (long v) bs = bs ≡ int_bytes_in form 8 v
  PayloadIn form (float b) bs = bs ≡ bytes_in form.order 4 b
  PayloadIn form (double b) bs = bs ≡ bytes_in form.order 8 b
  PayloadIn form (byte_array vs) bs = bs ≡ array_bytes_in form 1 vs
  PayloadIn form (string s) bs = bs ≡ string_bytes_in form s
  PayloadIn form (list ts) bs = (id : ℕ) × (body : List ℕ) × ListId ts id × ElementsIn form ts body × (bs ≡ id ∷ bytes_in form.order 4 (many ts) ++ body)
  PayloadIn form (compound es) bs = EntryBytesIn form es bs
  PayloadIn form (int_array vs) bs = bs ≡ array_bytes_in form 4 vs
  PayloadIn form (long_array vs) bs = bs ≡ array_bytes_in form 8 vs

  pub ElementsIn : Form → Tags → List ℕ → Type 0
  ElementsIn form nil bs = bs ≡ []
  ElementsIn form (more t ts) bs = (a : List ℕ) × (b : List ℕ) × PayloadIn form t a × ElementsIn form ts b × (bs ≡ a ++ b)

  pub EntryBytesIn : Form → Entries → List ℕ → Type 0
  EntryBytesIn form ended bs = bs ≡ 0 ∷ []
  EntryBytesIn form (entry n t es) bs =
      (a : List ℕ) × (b : List ℕ) × PayloadIn form t a × EntryBytesIn form es b × (bs ≡ kind_of t ∷ string_bytes_in form n ++ (a ++ b))

-- bs lay out a document: the root's id, its name, its entries.
pub record LayoutIn (form : Form) (d : Document) (bs : List ℕ) : Type 0 where
  pub body : List ℕ
  pub entries : EntryBytesIn form d.root body
  pub is : bs ≡ 10 ∷ string_bytes_in form d.name ++ body

-- The layout that a writer gives: of an empty list five zero bytes.
abbrev pub list_id : Tags → ℕ
list_id nil = 0
list_id (more t ts) = kind_of t

unfoldable mutual
  pub payload_in : Form → Tag → List ℕ
  payload_in form (byte v) = int_bytes_in form 1 v
  payload_in form (short v) = int_bytes_in form 2 v
  payload_in form (int v) = int_bytes_in form 4 v
  payload_in form (long v) = int_bytes_in form 8 v
  payload_in form (float b) = bytes_in form.order 4 b
  payload_in form (double b) = bytes_in form.order 8 b
  payload_in form (byte_array vs) = array_bytes_in form 1 vs
  payload_in form (string s) = string_bytes_in form s
  payload_in form (list ts) = list_id ts ∷ bytes_in form.order 4 (many ts) ++ element_bytes_in form ts
  payload_in form (compound es) = entry_bytes_in form es
  payload_in form (int_array vs) = array_bytes_in form 4 vs
  payload_in form (long_array vs) = array_bytes_in form 8 vs

  pub element_bytes_in : Form → Tags → List ℕ
  element_bytes_in form nil = []
  element_bytes_in form (more t ts) = payload_in form t ++ element_bytes_in form ts

  pub entry_bytes_in : Form → Entries → List ℕ
  entry_bytes_in form ended = 0 ∷ []
  entry_bytes_in form (entry n t es) = kind_of t ∷ string_bytes_in form n ++ (payload_in form t ++ entry_bytes_in form es)

unfoldable pub layout_in : Form → Document → List ℕ
layout_in form d = 10 ∷ string_bytes_in form d.name ++ entry_bytes_in form d.root

-- ---- document 01's own

abbrev pub int_bytes : ℕ → ℤ → List ℕ
int_bytes w v = int_bytes_in java w v

abbrev pub string_bytes : List ℕ → List ℕ
string_bytes s = string_bytes_in java s

abbrev pub ints_bytes : ℕ → List ℤ → List ℕ
ints_bytes w vs = ints_bytes_in java w vs

abbrev pub array_bytes : ℕ → List ℤ → List ℕ
array_bytes w vs = array_bytes_in java w vs

abbrev pub Layout : Document → List ℕ → Type 0
Layout d bs = LayoutIn java d bs

abbrev pub payload : Tag → List ℕ
payload t = payload_in java t

abbrev pub element_bytes : Tags → List ℕ
element_bytes ts = element_bytes_in java ts

abbrev pub entry_bytes : Entries → List ℕ
entry_bytes es = entry_bytes_in java es

abbrev pub layout : Document → List ℕ
layout d = layout_in java d
