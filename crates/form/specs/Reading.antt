-- Rules 3 to 5: what reading a document gives, its records or the refusal. `form` is the form that it is in (02, [2]), `doc` its bytes, `room`
-- how many records there is room for. Every definition is a chain of fields in 01's order: the first that fails is the refusal.
-- Assumes nothing.
use Rattle.std.specs.Prelude.{ℕ, zero, suc, ◌+◌, ◌*◌, ◌^◌, min, ◌/◌, List, Bool, true, false, not, ◌||◌, ◌&&◌, ◌≡◌, length, get_or, replicate, ltb, leb, eqb}
use Rattle.form.specs.Answer.{Out, got, no, ◌>>=◌, ◌>>◌, guard, data_ends, root_id, tag_id, bad_string, negative_count, name_twice, too_deep, table_full, over_limit, document_limit, record_limit}
use Rattle.form.specs.Answer.{depth_limit}
use Rattle.form.specs.Spans.{part, same}
use Rattle.form.specs.Form.{Form}
use Rattle.form.specs.Numbers.{number_in}
use Rattle.form.specs.Decoding.{Verdict, good, bad, verdict_in}
use Rattle.form.specs.Table.{Head, Forest, none, node, size, width, ◌⊕◌, wrote, width_of, holds}

-- A span of bytes, with the place past it; of an array also the count of its elements.
pub record Span : Type 0 where
  pub start : ℕ
  pub size : ℕ
  pub count : ℕ
  pub next : ℕ

-- The end of a compound, or an entry's kind and name.
pub data Entry : Type 0 where
  end : Entry
  named : ℕ → Span → Entry

-- A list's kind and count.
pub record ListHead : Type 0 where
  pub kind : ℕ
  pub count : ℕ

-- One record with those in it, and the place past it.
pub record One : Type 0 where
  pub head : Head
  pub inner : Forest
  pub next : ℕ

-- The records in a container, its count and list kind, and the place past it.
pub record Inside : Type 0 where
  pub forest : Forest
  pub count : ℕ
  pub kind : ℕ
  pub next : ℕ

-- Records that follow each other, and the place past them.
pub record Run : Type 0 where
  pub forest : Forest
  pub next : ℕ

abbrev pub one : Head → Forest → ℕ → One
one h f p = record { head = h; inner = f; next = p }

-- The record of a container (rule 6: its payload words are 0).
abbrev pub held_one : ℕ → ℕ → ℕ → Inside → One
held_one kind name len x =
    one (record { kind = kind; name = name; name_length = len; start = 0; size = 0; count = x.count; list_kind = x.kind }) x.forest x.next

-- Whether one of the records side by side has the name (refusal 6 compares content bytes).
unfoldable pub has_name : List ℕ → List ℕ → Forest → Bool
has_name doc name none = false
has_name doc name (node h inner later) = same (part doc h.name h.name_length) name || has_name doc name later

-- The record x before the records of r.
abbrev pub before : One → Run → Run
before x r = record { forest = node x.head x.inner r.forest; next = r.next }

-- A string whose content begins at a place: refusal 4 where the first sequence that can't be read begins (02, [3]).
abbrev pub readable : Verdict → ℕ → Out (Unit {0})
readable good start = got tt
readable (bad k) start = no bad_string (start + k)

-- Reads a payload: its kind, its name's start and length, its place, and its record's number.
abbrev pub Reader : Type 0
Reader = ℕ → ℕ → ℕ → ℕ → ℕ → Out One

module _ (doc : List ℕ) where
  -- An id byte.
  unfoldable pub byte_at : ℕ → Out ℕ
  byte_at at = do
    guard (ltb at (length doc)) data_ends at
    got (get_or doc at 0)

  -- n bytes at `at`, as one field.
  unfoldable pub bytes_at : ℕ → ℕ → ℕ → Out Span
  bytes_at n count at = do
    guard (leb (at + n) (length doc)) data_ends at
    got (record { start = at; size = n; count = count; next = at + n })

module _ (form : Form) (doc : List ℕ) where
  -- The number in the n bytes at `at` (rule 1).
  unfoldable pub number_at : ℕ → ℕ → Out ℕ
  number_at n at = do
    guard (leb (at + n) (length doc)) data_ends at
    got (number_in form.order (part doc at n))

  -- A string (rule 2): its length, its content (1), which can be read to its end (4).
  unfoldable pub string_at : ℕ → Out Span
  string_at at = do
    n ← number_at 2 at
    s ← bytes_at doc n 0 (at + 2)
    readable (verdict_in form.strings (part doc (at + 2) n)) (at + 2)
    got s

  -- An i32 count: whole (1), then not below 0 (5).
  unfoldable pub count_at : ℕ → Out ℕ
  count_at at = do
    n ← number_at 4 at
    guard (ltb n (2 ^ 31)) negative_count at
    got n

  -- An array: its count, then its elements as one field.
  unfoldable pub array_at : ℕ → ℕ → Out Span
  array_at w at = do
    n ← count_at at
    bytes_at doc (n * w) n (at + 4)

  -- What holds no records: kinds 1 to 6, a string, an array (rule 4).
  unfoldable pub leaf_at : ℕ → ℕ → Out Span
  leaf_at kind at =
      elim (ltb kind 7) [
        | true ↦ bytes_at doc (width_of kind) 0 at
        | false ↦ elim (eqb kind 8) [ true ↦ string_at at | false ↦ array_at (width_of kind) at ]
      ]

  -- A list's head: id and count whole (1), the id (3), the count (5). Of an empty list the id is forgotten.
  unfoldable pub list_head_at : ℕ → Out ListHead
  list_head_at at = do
    k ← byte_at doc at
    n ← number_at 4 (at + 1)
    guard (leb k 12 && (not (eqb k 0) || eqb n 0)) tag_id at
    guard (ltb n (2 ^ 31)) negative_count (at + 1)
    got (record { kind = elim (eqb n 0) [ true ↦ 0 | false ↦ k ]; count = n })

  -- An entry's head (rule 3): the id byte, 0 being the end; the name; then the id.
  unfoldable pub entry_at : ℕ → Out Entry
  entry_at at = do
    k ← byte_at doc at
    elim (eqb k 0) [
      | true ↦ got end
      | false ↦ do
        s ← string_at (at + 1)
        guard (leb k 12) tag_id at
        got (named k s)
    ]

  module _ (read : Reader) where
    -- As many list elements as the first number says.
    unfoldable pub elements : ℕ → ℕ → ℕ → ℕ → Out Run
    elements zero kind at n = got (record { forest = none; next = at })
    elements (suc left) kind at n = do
      x ← read kind 0 0 at n
      rest ← elements left kind x.next (n + 1 + size x.inner)
      got (before x rest)

    -- A compound's entries up to its end byte, after earlier ones; a repeated name is refused at the entry's id byte (6). Each entry
    -- takes a byte, so the first number, which falls at each, is enough where it is above the bytes left.
    unfoldable pub entries : ℕ → Forest → ℕ → ℕ → Out Run
    entries zero earlier at n = no 0 at
    entries (suc fuel) earlier at n = do
      e ← entry_at at
      elim e [
        | end ↦ got (record { forest = none; next = at + 1 })
        | named kind s ↦ do
          guard (not (has_name doc (part doc s.start s.size) earlier)) name_twice at
          x ← read kind s.start s.size s.next n
          rest ← entries fuel (earlier ⊕ node x.head x.inner none) x.next (n + 1 + size x.inner)
          got (before x rest)
      ]

    unfoldable pub list_at : ℕ → ℕ → Out Inside
    list_at at n = do
      h ← list_head_at at
      r ← elements h.count h.kind (at + 5) n
      got (record { forest = r.forest; count = h.count; kind = h.kind; next = r.next })

    unfoldable pub compound_at : ℕ → ℕ → Out Inside
    compound_at at n = do
      r ← entries (suc (length doc)) none at n
      got (record { forest = r.forest; count = width r.forest; kind = 0; next = r.next })

    unfoldable pub container_at : ℕ → ℕ → ℕ → Out Inside
    container_at kind at n = elim (eqb kind 9) [ true ↦ list_at at n | false ↦ compound_at at n ]

  -- The record of what holds no records.
  unfoldable pub leaf_one : ℕ → ℕ → ℕ → ℕ → Out One
  leaf_one kind name len at = do
    s ← leaf_at kind at
    got (one (record { kind = kind; name = name; name_length = len; start = s.start; size = s.size; count = s.count; list_kind = 0 }) none s.next)

  module _ (room : ℕ) where
    -- Room (8), then the payload; `inside` reads what is in a container.
    unfoldable pub payload_by : (ℕ → ℕ → ℕ → Out Inside) → Reader
    payload_by inside kind name len at n = do
      guard (ltb n room) table_full at
      elim (holds kind) [
        | true ↦ do
          x ← inside kind at (n + 1)
          got (held_one kind name len x)
        | false ↦ leaf_one kind name len at
      ]

    -- What is in a container, where so many may still stand within each other (7).
    unfoldable pub inside_at : ℕ → ℕ → ℕ → ℕ → Out Inside
    inside_at zero kind at n = no too_deep at
    inside_at (suc depth) kind at n = container_at (payload_by (inside_at depth)) kind at n

    -- The root: the limit (9), its id (1, 2), its name (1, 4), its payload.
    unfoldable pub document_at : Out One
    document_at = do
      guard (leb (length doc) document_limit) over_limit 0
      k ← byte_at doc 0
      guard (eqb k 10) root_id 0
      s ← string_at 1
      payload_by (inside_at depth_limit) 10 s.start s.size s.next 0

-- How many records a table of so many words has room for.
unfoldable pub room_of : ℕ → ℕ
room_of n = min (n / 9) record_limit

-- What a read answers: the bytes consumed and the number of records (rule 5).
pub record Counts : Type 0 where
  pub consumed : ℕ
  pub records : ℕ

abbrev pub counts_of : Out One → Out Counts
counts_of (got x) = got (record { consumed = x.next; records = 1 + size x.inner })
counts_of (no n p) = no n p

-- The table after a read: the records from word 0 on and the rest as it was; after a refusal all zero.
abbrev pub table_after : Out One → List ℕ → List ℕ
table_after (got x) t = wrote t 0 0 (node x.head x.inner none)
table_after (no n p) t = replicate (length t) 0

-- A read of doc into a table of words t.
abbrev pub reading : Form → List ℕ → List ℕ → Out One
reading form doc t = document_at form doc (room_of (length t))

-- The promise of a read: the answer, and every word of the table.
pub record ReadIs (form : Form) (doc t : List ℕ) (answer : Out Counts) (t' : List ℕ) : Type 0 where
  pub answer_is : answer ≡ counts_of (reading form doc t)
  pub table_is : t' ≡ table_after (reading form doc t) t
