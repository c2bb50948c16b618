-- What the contracts of this crate cite: the public answer as the definition's, and what a step leaves in the table.
-- Assumes nothing.
use Rattle.std.specs.Prelude.{ℕ, suc, ◌+◌, ◌*◌, ◌≤◌, ◌<◌, ◌^◌, ◌≡◌, List, length, take, Bool, not, Result, Ok, Err}
use Rattle.form.specs.Form.{Form}
use Rattle.form.specs.Answer.{Out, got, no, ◌>>◌, guard}
use Rattle.nbt_siblings.specs.Holding.{among, Holds}
use Rattle.nbt_siblings.specs.Names.{first_repeat}
use Rattle.nbt_siblings.specs.Forests.{refusal_of}
use Rattle.nbt_siblings.specs.Lists.{Family}
use Rattle.form.specs.Table.{none, node, size, width, wrote}
use Rattle.form.specs.Spans.{part}
use Rattle.form.specs.Reading.{One, Inside, Run, Counts, payload_by, inside_at, room_of}
use Rattle.form.specs.Refusals.{number_of, out_of}
use Rattle.form.specs.declared.refusals.Refused.{Refused}
use Rattle.nbt_reader.specs.declared.Accepted.{Accepted}
use Rattle.nbt_reader.specs.declared.bodies.Step.{Step}
use Rattle.nbt_reader.specs.declared.bodies.Kids.{Kids}
use Rattle.nbt_reader.specs.declared.settling.Ran.{Ran}

-- 01's number and values for each case of the public answer
abbrev pub counts_of : Accepted → Counts
counts_of a = record { consumed = a.consumed; records = a.records }

abbrev pub read_out : Result Accepted Refused → Out Counts
read_out r = out_of counts_of r

-- what the functions below the public one require
pub record Ready (doc table : List ℕ) (cap at above n : ℕ) : Type 0 where
  pub doc_le : length doc ≤ 16777216
  pub at_le : at ≤ length doc
  pub cap_le : cap ≤ 1048576
  pub fits : 9 * cap ≤ length table
  pub n_le : n ≤ cap
  pub above_le : above ≤ n

-- and of a payload
pub record Named (doc table : List ℕ) (cap at above n kind name len : ℕ) : Type 0 where
  pub ready : Ready doc table cap at above n
  pub kind_le : kind ≤ 12
  pub name_lt : name < 2 ^ 32
  pub len_lt : len < 2 ^ 32

-- the record x was read and is written from record n on
pub record Next (doc : List ℕ) (cap : ℕ) (o : Out One) (at' n' : ℕ) (at above n : ℕ) (t t' : List ℕ) : Type 0 where
  pub x : One
  pub is : o ≡ got x
  pub at_is : at' ≡ x.next
  pub n_is : n' ≡ n + 1 + size x.inner
  pub table : t' ≡ wrote t above n (node x.head x.inner none)
  pub on : at ≤ at'
  pub at_le : at' ≤ length doc
  pub n_le : n' ≤ cap

-- the words before record n are kept
abbrev pub Kept : ℕ → List ℕ → List ℕ → Type 0
Kept n t t' = take (9 * n) t' ≡ take (9 * n) t

-- what `read_tag_body` leaves, by its answer: the definition's answer is o
abbrev pub Stepped : List ℕ → ℕ → Out One → ℕ → ℕ → ℕ → List ℕ → List ℕ → Result Step Refused → Type 0
Stepped doc cap o at above n t t' (Ok s) = Next doc cap o s.at s.ix at above n t t'
Stepped doc cap o at above n t t' (Err e) = (o ≡ no (number_of e.refusal) e.place) × Kept n t t'

-- what the root's payload gives, where the table has room for its records
abbrev pub RootIs : Form → List ℕ → ℕ → ℕ → ℕ → List ℕ → List ℕ → Result Step Refused → Type 0
RootIs form doc name len at t t' r =
    Stepped doc (room_of (length t)) (payload_by form doc (room_of (length t)) (inside_at form doc (room_of (length t)) 512) 10 name len at 0) at 0 0 t t' r

-- the records x in a container were read and are written from record n on
pub record Filled (doc : List ℕ) (cap : ℕ) (o : Out Inside) (at' n' count kind : ℕ) (at above n : ℕ) (t t' : List ℕ) : Type 0 where
  pub x : Inside
  pub is : o ≡ got x
  pub at_is : at' ≡ x.next
  pub n_is : n' ≡ n + size x.forest
  pub count_is : count ≡ x.count
  pub kind_is : kind ≡ x.kind
  pub table : t' ≡ wrote t above n x.forest
  pub on : at ≤ at'
  pub at_le : at' ≤ length doc
  pub n_le : n' ≤ cap
  pub count_lt : count < 2 ^ 32

abbrev pub Held : List ℕ → ℕ → Out Inside → ℕ → ℕ → ℕ → List ℕ → List ℕ → Result Kids Refused → Type 0
Held doc cap o at above n t t' (Ok k) = Filled doc cap o k.at k.ix k.count k.kind at above n t t'
Held doc cap o at above n t t' (Err e) = (o ≡ no (number_of e.refusal) e.place) × Kept n t t'

-- the records x were read one after the other and are written from record n on
pub record Gone (doc : List ℕ) (cap : ℕ) (o : Out Run) (at' n' count : ℕ) (at above n : ℕ) (t t' : List ℕ) : Type 0 where
  pub x : Run
  pub is : o ≡ got x
  pub at_is : at' ≡ x.next
  pub n_is : n' ≡ n + size x.forest
  pub count_is : count ≡ width x.forest
  pub table : t' ≡ wrote t above n x.forest
  pub on : at ≤ at'
  pub at_le : at' ≤ length doc
  pub n_le : n' ≤ cap

abbrev pub Went : List ℕ → ℕ → Out Run → ℕ → ℕ → ℕ → List ℕ → List ℕ → Result Ran Refused → Type 0
Went doc cap o at above n t t' (Ok r) = Gone doc cap o r.at r.ix r.count at above n t t'
Went doc cap o at above n t t' (Err e) = (o ≡ no (number_of e.refusal) e.place) × Kept n t t'

-- what the functions that ask for a repeated name require
pub record Known (doc t : List ℕ) (first next : ℕ) : Type 0 where
  pub family : Family doc t first next
  pub holds : Holds (length doc) t first next
  pub fits : 9 * next ≤ length t

-- refusal 6 at the first repeated name among the records side by side, if there is one
abbrev pub repeat_in : List ℕ → List ℕ → ℕ → ℕ → Out (Unit {0})
repeat_in doc t first next = refusal_of t (first_repeat doc t first next)

-- a refusal, unless a name is repeated before it: o says whether one is
abbrev pub Settled : Out (Unit {0}) → ℕ → ℕ → Refused → Type 0
Settled o n p e = ◌>>◌ {A = Unit {0}} {B = Run} o (no n p) ≡ no (number_of e.refusal) e.place

-- the end of the entries, unless a name is repeated before it
abbrev pub Finished : Out (Unit {0}) → ℕ → ℕ → ℕ → Result Ran Refused → Type 0
Finished o at next count (Err e) = o ≡ no (number_of e.refusal) e.place
Finished o at next count (Ok r) = (o ≡ got tt) × (r.at ≡ at) × (r.ix ≡ next) × (r.count ≡ count)

-- a refusal in an entry's payload: its own name comes first
abbrev pub EntrySettled : Out (Unit {0}) → Bool → ℕ → ℕ → ℕ → Refused → Type 0
EntrySettled o twice here n p e =
    ◌>>◌ {A = Unit {0}} {B = Run} o (guard (not twice) 6 here >> no n p) ≡ no (number_of e.refusal) e.place

-- the same of an entry whose name has len bytes from `start` on
abbrev pub EntryIs : List ℕ → List ℕ → ℕ → ℕ → ℕ → ℕ → ℕ → ℕ → ℕ → Refused → Type 0
EntryIs doc t first next start len here n p e =
    EntrySettled (repeat_in doc t first next) (among doc t (suc next) first next (part doc start len)) here n p e
