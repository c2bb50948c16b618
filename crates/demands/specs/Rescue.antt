-- What is claimed of rescuing a document that is cut (request [11]). The proofs are in proofs/Rescue.antt, under the names given here.
-- Assumes nothing.
use Rattle.std.specs.Prelude.{ℕ, ◌+◌, ◌-◌, ◌≤◌, ◌<◌, ◌≡◌, ◌⊎◌, List, [], ◌∷◌, ◌++◌, Bool, true, ◌&&◌, length, ltb, leb, eqb}
use Rattle.form.specs.Form.{Form, stays}
use Rattle.form.specs.Answer.{got, no, pick, output_full, document_limit, record_limit, depth_limit}
use Rattle.form.specs.Tree.{Tag, Tags, Entries, byte, short, int, long, float, double, byte_array, string, list, compound, int_array}
use Rattle.form.specs.Tree.{long_array, nil, more, ended, entry, kind_of, many, tag_count, Document, LawfulIn, entries_count}
use Rattle.form.specs.Layout.{payload_in, layout_in}
use Rattle.form.specs.Table.{Head, Forest, none, node, size, flat, value_of}
use Rattle.form.specs.Tables.{IsTable, Within}
use Rattle.form.specs.Reading.{One, Span, string_at, document_at}
use Rattle.form.specs.Writing.{written}
use Rattle.form.specs.Cut.{Line, Kept, kept_of, document_of, saved, rescued}
use Rattle.demands.specs.Reading.{Bytes, Complete}

-- `rescued-when`: something is kept exactly of the documents that a read refuses with 1 behind the root's id and name.
abbrev pub IsRescuedWhen : Form → Type 0
IsRescuedWhen form =
    (doc : List ℕ) (room : ℕ)
    → ((p : ℕ) (s : Span) → document_at form doc room ≡ no 1 p → string_at form doc 1 ≡ got s → (k : Kept) × (kept_of form doc room ≡ got k))
    × ((k : Kept) → kept_of form doc room ≡ got k → (p : ℕ) × (s : Span) × (document_at form doc room ≡ no 1 p) × (string_at form doc 1 ≡ got s))

-- What is kept is whole: one compound's record with those in it; they form a table within the limits; the document that they stand for
-- keeps the rules, has a tag for each of them, and they had room.
pub record Whole (form : Form) (doc : List ℕ) (room : ℕ) (k : Kept) : Type 0 where
  pub head : Head
  pub inner : Forest
  pub is : k.forest ≡ node head inner none
  pub table : IsTable (length doc) (flat 0 0 (node head inner none))
  pub table_head : table.head ≡ head
  pub table_inner : table.inner ≡ inner
  pub small : Within (length doc) (flat 0 0 (node head inner none))
  pub lawful : LawfulIn form (value_of form doc head inner)
  pub records : size inner ≡ entries_count (value_of form doc head inner).root
  pub fits : 1 + size inner ≤ room

-- `rescued-lawful`: so it is of every document.
abbrev pub IsRescuedLawful : Form → Type 0
IsRescuedLawful form = (doc : List ℕ) → Bytes doc → (room : ℕ) (k : Kept) → room ≤ record_limit → kept_of form doc room ≡ got k → Whole form doc room k

-- Records that differ in their places alone: each has the partner's kind, lengths, count and list kind, and what is in it and after it.
unfoldable pub SameBut : Forest → Forest → Type 0
SameBut none g = g ≡ none
SameBut (node h inner later) g =
    (i : Head) × (inside : Forest) × (rest : Forest) × (g ≡ node i inside rest)
    × (h.kind ≡ i.kind) × (h.name_length ≡ i.name_length) × (h.size ≡ i.size) × (h.count ≡ i.count) × (h.list_kind ≡ i.list_kind)
    × SameBut inner inside × SameBut later rest

-- `rescued-read`: what is written of it is read back, whatever follows it, as that document, with the room that the read had, and the records
-- are those kept, at other places, so that a line's number is that of its record in the new document. The whole must be no longer than a
-- document may be: closing the containers can make it longer than the cut document.
abbrev pub IsRescuedRead : Form → Type 0
IsRescuedRead form =
    (doc : List ℕ) → Bytes doc → (room : ℕ) (k : Kept) → room ≤ record_limit → kept_of form doc room ≡ got k
    → (rest : List ℕ) → length (layout_in form (document_of form doc k.forest) ++ rest) ≤ document_limit
    → (c : Complete form (layout_in form (document_of form doc k.forest) ++ rest) room (document_of form doc k.forest) (layout_in form (document_of form doc k.forest)))
    × (1 + size c.x.inner ≡ size k.forest) × SameBut k.forest (node c.x.head c.x.inner none)

-- `rescued-long`: what is written of it is no longer than the cut document with one byte for each line, so 512 bytes more are always enough.
abbrev pub IsRescuedLong : Form → Type 0
IsRescuedLong form =
    (doc : List ℕ) → Bytes doc → (room : ℕ) (k : Kept) → kept_of form doc room ≡ got k
    → length (layout_in form (document_of form doc k.forest)) ≤ length doc + length k.lines

-- `rescued-written`: rule 8's writer gives it, of the records kept, or refuses for want of room alone.
abbrev pub IsRescuedWritten : Form → Type 0
IsRescuedWritten form =
    (doc : List ℕ) → Bytes doc → (room : ℕ) (k : Kept) → room ≤ record_limit → kept_of form doc room ≡ got k
    → (w : Whole form doc room k) (out : ℕ)
    → written (stays form) doc w.head w.inner out
    ≡ pick (leb (length (layout_in form (document_of form doc k.forest))) out) (got (layout_in form (document_of form doc k.forest))) (no output_full 0)

-- The lines are those of the open containers among some records, the first of which has the number n: the last record is open, or none is. An
-- open container has a line with its number and count, and then come the lines of what is in it; a compound promised 0, and a list no less
-- than is kept.
unfoldable pub Lined : ℕ → Forest → List Line → Type 0
Lined n none ls = ls ≡ []
Lined n (node h inner later) ls =
    ((l : Line) × (ms : List Line) × (ls ≡ l ∷ ms) × (later ≡ none)
    × (l.container ≡ n) × (l.kept ≡ h.count) × (((h.kind ≡ 9) × (h.count ≤ l.promised)) ⊎ ((h.kind ≡ 10) × (l.promised ≡ 0))) × Lined (n + 1) inner ms)
    ⊎ Lined (n + 1 + size inner) later ls

-- `rescued-lined`: the lines given are those of the records kept, of any document; the first is the root's.
abbrev pub IsRescuedLined : Form → Type 0
IsRescuedLined form =
    (doc : List ℕ) (room : ℕ) (k : Kept) → kept_of form doc room ≡ got k
    → Lined 0 k.forest k.lines × ((l : Line) × (ms : List Line) × (k.lines ≡ l ∷ ms) × (l.container ≡ 0)) × (length k.lines ≤ depth_limit)

-- ---- what is kept of a tree, by the bytes of its layout

-- Whether a tag counts as kept when m bytes of its payload are there: a list once its id and count are, a compound at once, and any other
-- tag when it is whole.
unfoldable pub counts : Form → Tag → ℕ → Bool
counts form t m = pick (eqb (kind_of t) 9) (leb 5 m) (pick (eqb (kind_of t) 10) true (leb (length (payload_in form t)) m))

-- What is kept when m bytes are there: of a tag that counts; of the elements of a list, each of which must have a byte; of the entries of a
-- compound, each of which must have its id and name. A tag that is whole is kept as it is; behind one that is not no byte is left.
unfoldable mutual
  pub cut_tag : Form → Tag → ℕ → Tag
  cut_tag form (byte v) m = byte v
  cut_tag form (short v) m = short v
  cut_tag form (int v) m = int v
  cut_tag form (long v) m = long v
  cut_tag form (float b) m = float b
  cut_tag form (double b) m = double b
  cut_tag form (byte_array vs) m = byte_array vs
  cut_tag form (string s) m = string s
  cut_tag form (list ts) m = list (cut_tags form ts (m - 5))
  cut_tag form (compound es) m = compound (cut_entries form es m)
  cut_tag form (int_array vs) m = int_array vs
  cut_tag form (long_array vs) m = long_array vs

  pub cut_tags : Form → Tags → ℕ → Tags
  cut_tags form nil m = nil
  cut_tags form (more t ts) m = pick (ltb 0 m && counts form t m) (more (cut_tag form t m) (cut_tags form ts (m - length (payload_in form t)))) nil

  pub cut_entries : Form → Entries → ℕ → Entries
  cut_entries form ended m = ended
  cut_entries form (entry n t es) m =
      pick (leb (3 + length n) m && counts form t (m - (3 + length n)))
      (entry n (cut_tag form t (m - (3 + length n))) (cut_entries form es (m - (3 + length n) - length (payload_in form t)))) ended

abbrev pub cut_document : Form → Document → ℕ → Document
cut_document form d m = record { name = d.name; root = cut_entries form d.root (m - (3 + length d.name)) }

-- `rescued-all`: of a document that is accepted when more follows, whatever follows and with whatever room, exactly that is kept of which the
-- bytes are there: nothing that was whole is left out, and nothing else is in.
abbrev pub IsRescuedAll : Form → Type 0
IsRescuedAll form =
    (doc rest : List ℕ) → Bytes (doc ++ rest) → (room room' : ℕ) (k : Kept) (x : One) → kept_of form doc room ≡ got k → document_at form (doc ++ rest) room' ≡ got x
    → document_of form doc k.forest ≡ cut_document form (value_of form (doc ++ rest) x.head x.inner) (length doc)

-- How many entries a compound has.
unfoldable pub many_entries : Entries → ℕ
many_entries ended = 0
many_entries (entry n t es) = 1 + many_entries es

-- The lines of the containers that are open when m bytes are there, outermost first: of a tag that counts and is not whole, with the number n;
-- of elements and of entries, the first of which has the number n. Each whole tag takes as many numbers as it has tags.
unfoldable mutual
  pub tag_lines : Form → Tag → ℕ → ℕ → List Line
  tag_lines form (byte v) m n = []
  tag_lines form (short v) m n = []
  tag_lines form (int v) m n = []
  tag_lines form (long v) m n = []
  tag_lines form (float b) m n = []
  tag_lines form (double b) m n = []
  tag_lines form (byte_array vs) m n = []
  tag_lines form (string s) m n = []
  tag_lines form (list ts) m n = record { container = n; promised = many ts; kept = many (cut_tags form ts (m - 5)) } ∷ element_lines form ts (m - 5) (n + 1)
  tag_lines form (compound es) m n = record { container = n; promised = 0; kept = many_entries (cut_entries form es m) } ∷ entry_lines form es m (n + 1)
  tag_lines form (int_array vs) m n = []
  tag_lines form (long_array vs) m n = []

  pub element_lines : Form → Tags → ℕ → ℕ → List Line
  element_lines form nil m n = []
  element_lines form (more t ts) m n =
      pick (leb (length (payload_in form t)) m) (element_lines form ts (m - length (payload_in form t)) (n + tag_count t)) (pick (ltb 0 m && counts form t m) (tag_lines form t m n) [])

  pub entry_lines : Form → Entries → ℕ → ℕ → List Line
  entry_lines form ended m n = []
  entry_lines form (entry name t es) m n =
      pick (leb (3 + length name + length (payload_in form t)) m) (entry_lines form es (m - (3 + length name) - length (payload_in form t)) (n + tag_count t))
      (pick (leb (3 + length name) m && counts form t (m - (3 + length name))) (tag_lines form t (m - (3 + length name)) n) [])

-- The root, record 0, is always open.
abbrev pub document_lines : Form → Document → ℕ → List Line
document_lines form d m = tag_lines form (compound d.root) (m - (3 + length d.name)) 0

-- `rescued-lines`: of such a document the lines are those of the containers that are open when its bytes are there.
abbrev pub IsRescuedLines : Form → Type 0
IsRescuedLines form =
    (doc rest : List ℕ) → Bytes (doc ++ rest) → (room room' : ℕ) (k : Kept) (x : One) → kept_of form doc room ≡ got k → document_at form (doc ++ rest) room' ≡ got x
    → k.lines ≡ document_lines form (value_of form (doc ++ rest) x.head x.inner) (length doc)

-- `cut-refused`: a document that is accepted, cut anywhere before its root's end, is refused since its data ends, and for no other reason.
abbrev pub IsCutRefused : Form → Type 0
IsCutRefused form =
    (doc rest : List ℕ) → Bytes (doc ++ rest) → (room : ℕ) (x : One) → document_at form (doc ++ rest) room ≡ got x → length doc < x.next
    → (p : ℕ) × (document_at form doc room ≡ no 1 p)

-- `every-cut`: so of every such document, cut anywhere behind its root's name, with room for the lines and the bytes, rescuing gives the layout
-- of what its bytes hold, and the lines of what they leave open.
abbrev pub IsEveryCut : Form → Type 0
IsEveryCut form =
    (doc rest : List ℕ) → Bytes (doc ++ rest) → (room : ℕ) (x : One) → document_at form (doc ++ rest) room ≡ got x
    → (d : Document) → d ≡ value_of form (doc ++ rest) x.head x.inner → length doc < x.next → 3 + length d.name ≤ length doc
    → (lines out : ℕ) → length (document_lines form d (length doc)) ≤ lines → length (layout_in form (cut_document form d (length doc))) ≤ out
    → rescued form doc room lines out ≡ saved (layout_in form (cut_document form d (length doc))) (document_lines form d (length doc))

-- ---- beginnings

-- A list or a compound begins another; elements and entries begin others: they are the same one after the other, and the last of them may
-- itself only begin its partner.
unfoldable mutual
  pub BeginsTag : Tag → Tag → Type 0
  BeginsTag (byte v) u = ⊥
  BeginsTag (short v) u = ⊥
  BeginsTag (int v) u = ⊥
  BeginsTag (long v) u = ⊥
  BeginsTag (float b) u = ⊥
  BeginsTag (double b) u = ⊥
  BeginsTag (byte_array vs) u = ⊥
  BeginsTag (string s) u = ⊥
  BeginsTag (list ts) u = (us : Tags) × (u ≡ list us) × BeginsTags ts us
  BeginsTag (compound es) u = (fs : Entries) × (u ≡ compound fs) × BeginsEntries es fs
  BeginsTag (int_array vs) u = ⊥
  BeginsTag (long_array vs) u = ⊥

  pub BeginsTags : Tags → Tags → Type 0
  BeginsTags nil us = Unit {0}
  BeginsTags (more t ts) us = (u : Tag) × (vs : Tags) × (us ≡ more u vs) × (((t ≡ u) × BeginsTags ts vs) ⊎ (BeginsTag t u × (ts ≡ nil)))

  pub BeginsEntries : Entries → Entries → Type 0
  BeginsEntries ended fs = Unit {0}
  BeginsEntries (entry n t es) fs =
      (u : Tag) × (gs : Entries) × (fs ≡ entry n u gs) × (((t ≡ u) × BeginsEntries es gs) ⊎ (BeginsTag t u × (es ≡ ended)))

-- `cut-begins`: what is kept of a tree begins it.
abbrev pub IsCutBegins : Form → Type 0
IsCutBegins form = (es : Entries) (m : ℕ) → BeginsEntries (cut_entries form es m) es

-- `rescued-begins`: so what is kept of a document begins the document that is accepted when more follows: every tag but those that were open
-- has the value it had.
abbrev pub IsRescuedBegins : Form → Type 0
IsRescuedBegins form =
    (doc rest : List ℕ) → Bytes (doc ++ rest) → (room room' : ℕ) (k : Kept) (x : One) → kept_of form doc room ≡ got k → document_at form (doc ++ rest) room' ≡ got x
    → ((document_of form doc k.forest).name ≡ (value_of form (doc ++ rest) x.head x.inner).name)
    × BeginsEntries (document_of form doc k.forest).root (value_of form (doc ++ rest) x.head x.inner).root
