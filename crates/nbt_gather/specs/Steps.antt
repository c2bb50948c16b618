-- What the contracts of this crate cite: what is read again, what of it is kept, and what that leaves in the table and in the list of lines.
-- Assumes nothing.
use Rattle.std.specs.Prelude.{ℕ, suc, ◌+◌, ◌-◌, ◌*◌, ◌≤◌, ◌<◌, ◌^◌, ◌≡◌, List, [], ◌∷◌, length, ltb, eqb, Option, Some, None}
use Rattle.form.specs.Form.{Form}
use Rattle.form.specs.Answer.{Out, got, no, pick, data_ends, depth_limit}
use Rattle.form.specs.Spans.{over}
use Rattle.form.specs.Table.{none, size, width, words, wrote}
use Rattle.form.specs.Reading.{Reader, One, Run, room_of, string_at, payload_by, inside_at, elements, entries}
use Rattle.form.specs.Cut.{Kept, kept_elements, kept_entries, begun_at, kept_of, line_words}
use Rattle.nbt_reader.specs.Steps.{Ready, Named, Next, Gone}
use Rattle.nbt_gather.specs.declared.Piece.{Piece}
use Rattle.nbt_gather.specs.declared.Side.{Side}
use Rattle.nbt_gather.specs.declared.Gathered.{Gathered}

-- The answer is accepted or refused with 1: so is every part of a document that is refused with 1, and names, room and depth need no second
-- question.
abbrev pub OnlyCut : {A : Type 0} → Out A → Type 0
OnlyCut (got a) = Unit {0}
OnlyCut (no m p) = m ≡ data_ends

-- The answer is refused with 1.
abbrev pub IsCut : {A : Type 0} → Out A → Type 0
IsCut o = (p : ℕ) × (o ≡ no data_ends p)

-- The reader of a payload, with room for the records of a table of so many words, where so many containers may still stand within each other.
abbrev pub read_in : Form → List ℕ → ℕ → ℕ → Reader
read_in form doc words depth = payload_by form doc (room_of words) (inside_at form doc (room_of words) depth)

-- What is read of a list's elements and of a compound's entries, and what is kept of them.
abbrev pub elements_in : Form → List ℕ → ℕ → ℕ → ℕ → ℕ → ℕ → ℕ → Out Run
elements_in form doc words depth count kind at n = elements form doc (read_in form doc words depth) count kind at n

abbrev pub entries_in : Form → List ℕ → ℕ → ℕ → ℕ → ℕ → Out Run
entries_in form doc words depth at n = entries form doc (read_in form doc words depth) (suc (length doc)) none at n

abbrev pub elements_kept : Form → List ℕ → ℕ → ℕ → ℕ → ℕ → ℕ → ℕ → Kept
elements_kept form doc words depth count kind at n = kept_elements form doc (read_in form doc words depth) (begun_at form doc (room_of words) depth) count kind at n

abbrev pub entries_kept : Form → List ℕ → ℕ → ℕ → ℕ → ℕ → Kept
entries_kept form doc words depth at n = kept_entries form doc (read_in form doc words depth) (begun_at form doc (room_of words) depth) (suc (length doc)) at n

-- ---- what the functions require

-- Of a payload.
pub record PayloadAsked (form : Form) (doc t : List ℕ) (depth kind name len at above n : ℕ) (ls : List ℕ) (most : ℕ) : Type 0 where
  pub named : Named doc t (room_of (length t)) at above n kind name len
  pub deep : depth ≤ depth_limit
  pub only : OnlyCut (read_in form doc (length t) depth kind name len at n)
  pub lines_fit : 3 * most ≤ length ls

-- Of the elements of the list that is record n: their kind is one that has bytes.
pub record ElementsAsked (form : Form) (doc t : List ℕ) (depth count kind at n : ℕ) (ls : List ℕ) (most : ℕ) : Type 0 where
  pub ready : Ready doc t (room_of (length t)) at n (n + 1)
  pub deep : depth < depth_limit
  pub kind_le : kind ≤ 12
  pub kind_some : 0 < count → 0 < kind
  pub only : OnlyCut (elements_in form doc (length t) depth count kind at (n + 1))
  pub lines_fit : 3 * most ≤ length ls

-- Of the entries of the compound that is record n.
pub record EntriesAsked (form : Form) (doc t : List ℕ) (depth at n : ℕ) (ls : List ℕ) (most : ℕ) : Type 0 where
  pub ready : Ready doc t (room_of (length t)) at n (n + 1)
  pub deep : depth < depth_limit
  pub only : OnlyCut (entries_in form doc (length t) depth at (n + 1))
  pub lines_fit : 3 * most ≤ length ls

-- The next record behind what was gathered side by side, how many stand there, and how many containers are open.
abbrev pub end_of : Side → ℕ
end_of (Side.Whole at n count) = n
end_of (Side.Cut n count m) = n

abbrev pub count_of : Side → ℕ
count_of (Side.Whole at n count) = count
count_of (Side.Cut n count m) = count

abbrev pub open_of : Side → ℕ
open_of (Side.Whole at n count) = 0
open_of (Side.Cut n count m) = m

-- Of a container, record n in record `above`, behind what was gathered in it.
pub record HeldAsked (t : List ℕ) (name len promised level above n : ℕ) (s : Side) (ls : List ℕ) (most : ℕ) : Type 0 where
  pub fits : 9 * n + 9 ≤ length t
  pub above_le : above ≤ n
  pub n_lt : n < 2 ^ 32
  pub name_lt : name < 2 ^ 32
  pub len_lt : len < 2 ^ 32
  pub promised_lt : promised < 2 ^ 32
  pub level_le : level ≤ depth_limit
  pub end_lt : end_of s < 2 ^ 32
  pub count_lt : count_of s < 2 ^ 32
  pub open_lt : open_of s < 2 ^ 32
  pub lines_fit : 3 * most ≤ length ls

-- ---- what they leave

-- A payload that holds no records and is read as o: its record; or nothing is changed.
abbrev pub LeafIs : List ℕ → ℕ → Out One → ℕ → ℕ → ℕ → List ℕ → List ℕ → Piece → Type 0
LeafIs doc room o at above n t t' (Piece.Whole at' n') = Next doc room o at' n' at above n t t'
LeafIs doc room o at above n t t' (Piece.Cut n' m) = ((q p : ℕ) × (o ≡ no q p)) × (n' ≡ n) × (m ≡ 0) × (t' ≡ t)

-- What is kept stands in the table from record n on, in record `above`, and its m lines in the list from line `level` on, if the lines are `most` at the most.
pub record Shut (room : ℕ) (k : Kept) (n' m level above n : ℕ) (t t' ls ls' : List ℕ) (most : ℕ) : Type 0 where
  pub n_is : n' ≡ n + size k.forest
  pub many : m ≡ length k.lines
  pub table : t' ≡ wrote t above n k.forest
  pub listed : level + m ≤ most → ls' ≡ over ls (3 * level) (line_words k.lines)
  pub unlisted : most < level + m → ls' ≡ ls
  pub n_le : n' ≤ room
  pub deep : level + m ≤ depth_limit

-- Of a payload that is read as o and of which k is kept where it is cut.
abbrev pub PieceIs : List ℕ → ℕ → Out One → Kept → ℕ → ℕ → ℕ → ℕ → List ℕ → List ℕ → List ℕ → List ℕ → ℕ → Piece → Type 0
PieceIs doc room o k level at above n t t' ls ls' most (Piece.Whole at' n') = Next doc room o at' n' at above n t t' × (ls' ≡ ls)
PieceIs doc room o k level at above n t t' ls ls' most (Piece.Cut n' m) = IsCut o × Shut room k n' m level above n t t' ls ls' most

-- Of records side by side, with how many of them stand there.
abbrev pub SideIs : List ℕ → ℕ → Out Run → Kept → ℕ → ℕ → ℕ → ℕ → List ℕ → List ℕ → List ℕ → List ℕ → ℕ → Side → Type 0
SideIs doc room o k level at above n t t' ls ls' most (Side.Whole at' n' count) = Gone doc room o at' n' count at above n t t' × (ls' ≡ ls)
SideIs doc room o k level at above n t t' ls ls' most (Side.Cut n' count m) = IsCut o × Shut room k n' m level above n t t' ls ls' most × (count ≡ width k.forest)

-- A payload of a kind at a place, where so many containers may still stand within each other; a list's elements; a compound's entries.
abbrev pub PayloadIs : Form → List ℕ → ℕ → ℕ → ℕ → ℕ → ℕ → ℕ → ℕ → List ℕ → List ℕ → List ℕ → List ℕ → ℕ → Piece → Type 0
PayloadIs form doc depth kind name len at above n t t' ls ls' most r =
    PieceIs doc (room_of (length t)) (read_in form doc (length t) depth kind name len at n) (begun_at form doc (room_of (length t)) depth kind name len at n)
    (512 - depth) at above n t t' ls ls' most r

abbrev pub ElementsAre : Form → List ℕ → ℕ → ℕ → ℕ → ℕ → ℕ → List ℕ → List ℕ → List ℕ → List ℕ → ℕ → Side → Type 0
ElementsAre form doc depth count kind at n t t' ls ls' most r =
    SideIs doc (room_of (length t)) (elements_in form doc (length t) depth count kind at (n + 1)) (elements_kept form doc (length t) depth count kind at (n + 1))
    (512 - depth) at n (n + 1) t t' ls ls' most r

abbrev pub EntriesAre : Form → List ℕ → ℕ → ℕ → ℕ → List ℕ → List ℕ → List ℕ → List ℕ → ℕ → Side → Type 0
EntriesAre form doc depth at n t t' ls ls' most r =
    SideIs doc (room_of (length t)) (entries_in form doc (length t) depth at (n + 1)) (entries_kept form doc (length t) depth at (n + 1))
    (512 - depth) at n (n + 1) t t' ls ls' most r

-- The words of a container's record.
abbrev pub held_words : ℕ → ℕ → ℕ → ℕ → ℕ → ℕ → ℕ → List ℕ
held_words kind name len count inner end parent =
    words (record { kind = kind; name = name; name_length = len; start = 0; size = 0; count = count; list_kind = inner }) end parent

-- A container closed behind what was gathered in it: its record, and where it is cut its line, if all lines are `most` at the most; a list
-- that is left with no element has no kind.
abbrev pub HeldIs : ℕ → ℕ → ℕ → ℕ → ℕ → ℕ → ℕ → ℕ → List ℕ → List ℕ → List ℕ → List ℕ → ℕ → Side → Piece → Type 0
HeldIs kind name len inner promised level above n t t' ls ls' most (Side.Whole at n' count) r =
    (r ≡ Piece.Whole at n') × (t' ≡ over t (9 * n) (held_words kind name len count inner n' above)) × (ls' ≡ ls)
HeldIs kind name len inner promised level above n t t' ls ls' most (Side.Cut n' count m) r =
    (r ≡ Piece.Cut n' (m + 1)) × (t' ≡ over t (9 * n) (held_words kind name len count (pick (eqb count 0) 0 inner) n' above))
    × (ls' ≡ pick (ltb (level + m) most) (over ls (3 * level) (n ∷ promised ∷ count ∷ [])) ls)

-- ---- the document

-- What is kept of a document that a read into a table of words t refuses with 1: the records from 0 on, and the lines from 0 on if they are
-- `most` at the most; or its root's id or name is not whole, and nothing is changed.
pub record KeptIn (form : Form) (doc t t' ls ls' : List ℕ) (most records lines : ℕ) : Type 0 where
  pub k : Kept
  pub is : kept_of form doc (room_of (length t)) ≡ got k
  pub records_are : records ≡ size k.forest
  pub lines_are : lines ≡ length k.lines
  pub table : t' ≡ wrote t 0 0 k.forest
  pub listed : lines ≤ most → ls' ≡ over ls 0 (line_words k.lines)
  pub unlisted : most < lines → ls' ≡ ls
  pub fits : 9 * records ≤ length t
  pub small : lines ≤ depth_limit

abbrev pub GatheredIs : Form → List ℕ → List ℕ → List ℕ → List ℕ → List ℕ → ℕ → Option Gathered → Type 0
GatheredIs form doc t t' ls ls' most (Some g) = KeptIn form doc t t' ls ls' most g.records g.lines
GatheredIs form doc t t' ls ls' most None = ((m p : ℕ) × (string_at form doc 1 ≡ no m p)) × (t' ≡ t) × (ls' ≡ ls)
