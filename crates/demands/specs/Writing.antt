-- What is claimed of writing: a table is written exactly where the document that it stands for keeps the rules, as the layout of that
-- document; what is written is read back as that document; and what was read is written as it was, but for the ids of empty lists.
-- The proofs are in proofs/Writing.antt, under the names given here.
-- Assumes nothing.
use Rattle.std.specs.Prelude.{ℕ, ◌+◌, ◌-◌, ◌≤◌, ◌<◌, Bool, true, false, ◌&&◌, ◌≡◌, List, ◌++◌, length, get_or, take, ltb, eqb}
use Rattle.form.specs.Form.{Form, stays}
use Rattle.form.specs.Answer.{got, no, pick, output_full, document_limit, record_limit}
use Rattle.form.specs.Tree.{Tag, Tags, Entries, byte, short, int, long, float, double, byte_array, string, list, compound, int_array, long_array, nil, more, ended, entry, Document, LawfulIn, entries_count}
use Rattle.form.specs.Layout.{payload_in, LayoutIn, layout_in}
use Rattle.form.specs.Table.{none, node, flat, value_of}
use Rattle.form.specs.Tables.{IsTable, Within}
use Rattle.form.specs.Reading.{One, document_at}
use Rattle.form.specs.Writing.{written}
use Rattle.demands.specs.Reading.{Bytes, Complete}

-- The document that a table stands for.
abbrev pub table_value : (form : Form) (doc w : List ℕ) → IsTable (length doc) w → Document
table_value form doc w t = value_of form doc t.head t.inner

-- What an accepted write says: the bytes are the layout of the table's document, which keeps the rules and the limits, and there was room.
pub record Wrote (form : Form) (d : Document) (room : ℕ) (bs : List ℕ) : Type 0 where
  pub laid : bs ≡ layout_in form d
  pub lawful : LawfulIn form d
  pub fits : length bs ≤ room

-- `written-lawful`: whatever table is accepted, with whatever room, the answer says that.
abbrev pub IsWrittenLawful : Form → Type 0
IsWrittenLawful form =
    (doc w : List ℕ) → Bytes doc → Within (length doc) w → (t : IsTable (length doc) w) (room : ℕ) (bs : List ℕ)
    → written (stays form) doc t.head t.inner room ≡ got bs → Wrote form (table_value form doc w t) room bs

-- `lawful-written`: every table whose document keeps the rules is accepted where there is room: only strings, names, lists and depth
-- are ever refused.
abbrev pub IsLawfulWritten : Form → Type 0
IsLawfulWritten form =
    (doc w : List ℕ) → Bytes doc → Within (length doc) w → (t : IsTable (length doc) w) (room : ℕ)
    → LawfulIn form (table_value form doc w t) → length (layout_in form (table_value form doc w t)) ≤ room
    → written (stays form) doc t.head t.inner room ≡ got (layout_in form (table_value form doc w t))

-- `lawful-full`: where there is no room the refusal is 13, at 0.
abbrev pub IsLawfulFull : Form → Type 0
IsLawfulFull form =
    (doc w : List ℕ) → Bytes doc → Within (length doc) w → (t : IsTable (length doc) w) (room : ℕ)
    → LawfulIn form (table_value form doc w t) → room < length (layout_in form (table_value form doc w t))
    → written (stays form) doc t.head t.inner room ≡ no output_full 0

-- `read_back`: what is written is read back, whatever follows it, as the document that was written.
abbrev pub IsReadBack : Form → Type 0
IsReadBack form =
    (doc w : List ℕ) → Bytes doc → Within (length doc) w → (t : IsTable (length doc) w) (room : ℕ) (bs : List ℕ)
    → written (stays form) doc t.head t.inner room ≡ got bs
    → (rest : List ℕ) → length (bs ++ rest) ≤ document_limit → Complete form (bs ++ rest) record_limit (table_value form doc w t) bs

-- ---- write after read

abbrev pub is_nil : Tags → Bool
is_nil nil = true
is_nil (more t ts) = false

-- Whether place k of a layout is the id of an empty list, which is forgotten: of a tag's payload, of the elements of a list, of the
-- entries of a compound.
unfoldable mutual
  pub id_in : Form → Tag → ℕ → Bool
  id_in form (byte v) k = false
  id_in form (short v) k = false
  id_in form (int v) k = false
  id_in form (long v) k = false
  id_in form (float b) k = false
  id_in form (double b) k = false
  id_in form (byte_array vs) k = false
  id_in form (string s) k = false
  id_in form (list ts) k = pick (ltb k 5) (eqb k 0 && is_nil ts) (element_id_in form ts (k - 5))
  id_in form (compound es) k = entry_id_in form es k
  id_in form (int_array vs) k = false
  id_in form (long_array vs) k = false

  pub element_id_in : Form → Tags → ℕ → Bool
  element_id_in form nil k = false
  element_id_in form (more t ts) k = pick (ltb k (length (payload_in form t))) (id_in form t k) (element_id_in form ts (k - length (payload_in form t)))

  pub entry_id_in : Form → Entries → ℕ → Bool
  entry_id_in form ended k = false
  entry_id_in form (entry n t es) k =
      pick (ltb k (3 + length n)) false
      (pick (ltb (k - (3 + length n)) (length (payload_in form t))) (id_in form t (k - (3 + length n))) (entry_id_in form es (k - (3 + length n) - length (payload_in form t))))

abbrev pub empty_id_in : Form → Document → ℕ → Bool
empty_id_in form d k = pick (ltb k (3 + length d.name)) false (entry_id_in form d.root (k - (3 + length d.name)))

-- Two lists of bytes are as long as each other, and the same but at some places.
pub record Near (skip : ℕ → Bool) (bs cs : List ℕ) : Type 0 where
  pub long : length bs ≡ length cs
  pub same : (k : ℕ) → skip k ≡ false → get_or bs k 0 ≡ get_or cs k 0

-- `near`: any two layouts of a document are the same but at the ids of empty lists.
abbrev pub IsNear : Form → Type 0
IsNear form = (d : Document) (bs : List ℕ) → LayoutIn form d bs → Near (empty_id_in form d) bs (layout_in form d)

-- What an accepted read says of writing: the words of its records form a table, which stands for the document that was read; with room
-- for its layout that table is written; and what is written are the bytes consumed, but at the ids of empty lists.
pub record Rewritten (form : Form) (doc : List ℕ) (x : One) : Type 0 where
  pub table : IsTable (length doc) (flat 0 0 (node x.head x.inner none))
  pub head_is : table.head ≡ x.head
  pub inner_is : table.inner ≡ x.inner
  pub small : Within (length doc) (flat 0 0 (node x.head x.inner none))
  pub written_is : (room : ℕ) → x.next ≤ room → written (stays form) doc x.head x.inner room ≡ got (layout_in form (value_of form doc x.head x.inner))
  pub near : Near (empty_id_in form (value_of form doc x.head x.inner)) (take x.next doc) (layout_in form (value_of form doc x.head x.inner))

-- `rewritten`: whatever is accepted, with the room of any table, the answer says that.
abbrev pub IsRewritten : Form → Type 0
IsRewritten form =
    (doc : List ℕ) → Bytes doc → (room : ℕ) → room ≤ record_limit → (x : One) → document_at form doc room ≡ got x → Rewritten form doc x

-- ---- the domain of equality

-- The documents that can be both written and read: names are unique, strings well formed, lists of one kind, and every limit is kept.
pub record InDomain (form : Form) (d : Document) : Type 0 where
  pub lawful : LawfulIn form d
  pub bytes : length (layout_in form d) ≤ document_limit
  pub records : 1 + entries_count d.root ≤ record_limit

-- `domain`: each of them is read from its layout, and the table that this leaves is written as that layout again.
abbrev pub IsDomain : Form → Type 0
IsDomain form =
    (d : Document) → InDomain form d
    → (x : One) × (document_at form (layout_in form d) record_limit ≡ got x) × (value_of form (layout_in form d) x.head x.inner ≡ d)
    × (written (stays form) (layout_in form d) x.head x.inner (length (layout_in form d)) ≡ got (layout_in form d))
