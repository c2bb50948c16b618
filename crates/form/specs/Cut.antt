-- Request [11]: what is rescued of a document whose data ends before its root does (refusal 1). A tag is kept whole exactly where reading
-- it is accepted; the tags around the cut are kept as containers, closed behind what they got; a leaf that is cut vanishes with its name.
-- Assumes nothing.
use Rattle.std.specs.Prelude.{ℕ, zero, suc, ◌+◌, ◌/◌, List, [], ◌∷◌, ◌≡◌, true, false, length, ltb, leb, eqb}
use Rattle.form.specs.Answer.{Out, got, no, pick, data_ends, output_full, more_matches, depth_limit}
use Rattle.form.specs.Form.{Form}
use Rattle.form.specs.Spans.{over}
use Rattle.form.specs.Tree.{Document, ended}
use Rattle.form.specs.Layout.{layout_in}
use Rattle.form.specs.Table.{Head, Forest, none, node, size, width, value_of}
use Rattle.form.specs.Tables.{first_kind}
use Rattle.form.specs.Reading.{One, Reader, end, named, string_at, list_head_at, entry_at, payload_by, inside_at, document_at, room_of, reading, table_after}

-- ---- the refusals of [11], by name

abbrev pub not_cut : ℕ
not_cut = 31

abbrev pub root_cut : ℕ
root_cut = 32

-- ---- what is kept

-- The line of a container that the cut left open: the number of its record, the count promised (0 for a compound), the count kept.
pub record Line : Type 0 where
  pub container : ℕ
  pub promised : ℕ
  pub kept : ℕ

-- The records kept, side by side, and the lines of the open containers among them and in them, outermost first.
pub record Kept : Type 0 where
  pub forest : Forest
  pub lines : List Line

abbrev pub nothing : Kept
nothing = record { forest = none; lines = [] }

-- A whole record before what is kept after it.
abbrev pub whole : One → Kept → Kept
whole x k = record { forest = node x.head x.inner k.forest; lines = k.lines }

-- The record of an open container (rule 6): it counts what is kept in it, and a list has the kind of its first element kept.
abbrev pub open_head : ℕ → ℕ → ℕ → Forest → Head
open_head kind name len f = record {
  kind = kind;
  name = name;
  name_length = len;
  start = 0;
  size = 0;
  count = width f;
  list_kind = pick (eqb kind 9) (first_kind f) 0;
}

-- An open container, record n, with what is kept in it.
abbrev pub opened : ℕ → ℕ → ℕ → ℕ → ℕ → Kept → Kept
opened kind name len n promised k = record {
  forest = node (open_head kind name len k.forest) k.forest none;
  lines = record { container = n; promised = promised; kept = width k.forest } ∷ k.lines;
}

-- What is kept of a payload that is not whole, from what a reader takes: its kind, its name's start and length, its place, its number.
abbrev pub Opener : Type 0
Opener = ℕ → ℕ → ℕ → ℕ → ℕ → Kept

module _ (form : Form) (doc : List ℕ) where
  module _ (read : Reader) (begun : Opener) where
    -- Of a list's elements: those that are whole, then what is kept of the first that is not, if a byte of it is there.
    unfoldable pub kept_elements : ℕ → ℕ → ℕ → ℕ → Kept
    kept_elements zero kind at n = nothing
    kept_elements (suc left) kind at n =
        elim (read kind 0 0 at n) [
          | got x ↦ whole x (kept_elements left kind x.next (n + 1 + size x.inner))
          | no m p ↦ elim (ltb at (length doc)) [ true ↦ begun kind 0 0 at n | false ↦ nothing ]
        ]

    -- Of a compound's entries: those that are whole, then what is kept of the first that is not, if its id and name are whole.
    unfoldable pub kept_entries : ℕ → ℕ → ℕ → Kept
    kept_entries zero at n = nothing
    kept_entries (suc fuel) at n =
        elim (entry_at form doc at) [
          | no m p ↦ nothing
          | got e ↦ elim e [
            | end ↦ nothing
            | named kind s ↦ elim (read kind s.start s.size s.next n) [
              | got x ↦ whole x (kept_entries fuel x.next (n + 1 + size x.inner))
              | no m p ↦ begun kind s.start s.size s.next n
            ]
          ]
        ]

  module _ (room : ℕ) where
    -- Of a payload that is not whole, where so many containers may still stand within each other: a list whose id and count are whole,
    -- a compound, and of any other kind nothing.
    unfoldable pub begun_at : ℕ → Opener
    begun_at zero kind name len at n = nothing
    begun_at (suc depth) kind name len at n =
        elim (eqb kind 9) [
          | true ↦ elim (list_head_at form doc at) [
            | got h ↦ opened 9 name len n h.count
                (kept_elements (payload_by form doc room (inside_at form doc room depth)) (begun_at depth) h.count h.kind (at + 5) (n + 1))
            | no m p ↦ nothing
          ]
          | false ↦ elim (eqb kind 10) [
            | true ↦ opened 10 name len n 0 (kept_entries (payload_by form doc room (inside_at form doc room depth)) (begun_at depth) (suc (length doc)) at (n + 1))
            | false ↦ nothing
          ]
        ]

    -- Of the document: the reader's refusals but 1 as they are; 31 for an accepted document; 32, at the reader's place, where the root's id
    -- or name is not whole; otherwise the root's record with what is kept in it.
    unfoldable pub kept_of : Out Kept
    kept_of =
        elim (document_at form doc room) [
          | got x ↦ no not_cut 0
          | no m p ↦ elim (eqb m data_ends) [
            | true ↦ elim (string_at form doc 1) [
              | got s ↦ got (begun_at depth_limit 10 s.start s.size s.next 0)
              | no m' p' ↦ no root_cut p
            ]
            | false ↦ no m p
          ]
        ]

-- The document that a root's record and the records in it stand for.
abbrev pub document_of : Form → List ℕ → Forest → Document
document_of form doc none = record { name = []; root = ended }
document_of form doc (node h inner later) = value_of form doc h inner

-- ---- the answer

-- What a rescue gives: the bytes of the new document, and its open containers; or a refusal's number and place, with the true count where
-- it is 24.
pub data Rescue : Type 0 where
  saved : List ℕ → List Line → Rescue
  refused : ℕ → ℕ → ℕ → Rescue

-- The layout of what is kept, where the lines have room (24) and then the bytes (13).
abbrev pub laid_in : Form → List ℕ → ℕ → ℕ → Out Kept → Rescue
laid_in form doc lines-room out-room (got k) =
    pick (leb (length k.lines) lines-room)
    (pick (leb (length (layout_in form (document_of form doc k.forest))) out-room) (saved (layout_in form (document_of form doc k.forest)) k.lines) (refused output_full 0 0))
    (refused more_matches 0 (length k.lines))
laid_in form doc lines-room out-room (no m p) = refused m p 0

-- What rescuing doc, in that form, gives, with room for so many records, lines and bytes.
unfoldable pub rescued : Form → List ℕ → ℕ → ℕ → ℕ → Rescue
rescued form doc room lines-room out-room = laid_in form doc lines-room out-room (kept_of form doc room)

-- ---- the promise

-- The words of the lines, three each.
unfoldable pub line_words : List Line → List ℕ
line_words [] = []
line_words (l ∷ ls) = l.container ∷ l.promised ∷ l.kept ∷ line_words ls

-- A rescue with a table of words t, output o and list of changes c.
abbrev pub rescuing : Form → List ℕ → List ℕ → List ℕ → List ℕ → Rescue
rescuing form doc t o c = rescued form doc (room_of (length t)) (length c / 3) (length o)

-- What a rescue answers: the number of bytes written and the number of lines; or the refusal.
pub data Sizes : Type 0 where
  sizes : ℕ → ℕ → Sizes
  failed : ℕ → ℕ → ℕ → Sizes

abbrev pub sizes_of : Rescue → Sizes
sizes_of (saved bs ls) = sizes (length bs) (length ls)
sizes_of (refused n p c) = failed n p c

-- The output after a rescue, and the list of changes: filled from 0 on and the rest as it was; after a refusal unchanged.
abbrev pub bytes_after : Rescue → List ℕ → List ℕ
bytes_after (saved bs ls) o = over o 0 bs
bytes_after (refused n p c) o = o

abbrev pub lines_after : Rescue → List ℕ → List ℕ
lines_after (saved bs ls) c = over c 0 (line_words ls)
lines_after (refused n p m) c = c

-- The promise of a rescue: the answer, every byte of the output and every word of the changes; the table ends as the read leaves it.
pub record RescueIs (form : Form) (doc t o c : List ℕ) (answer : Sizes) (t' o' c' : List ℕ) : Type 0 where
  pub answer_is : answer ≡ sizes_of (rescuing form doc t o c)
  pub table_is : t' ≡ table_after (reading form doc t) t
  pub output_is : o' ≡ bytes_after (rescuing form doc t o c) o
  pub changes_is : c' ≡ lines_after (rescuing form doc t o c) c
