-- What the contracts of the parser's cycle cite: what each answer means, and what is left behind.
-- Assumes nothing.
use Rattle.std.specs.Prelude.{ℕ, suc, ◌+◌, ◌-◌, ◌*◌, ◌≤◌, ◌<◌, ◌≡◌, Bool, true, false, ◌||◌, List, [], eqb, length, take, Result, Ok, Err}
use Rattle.form.specs.Refusals.{number_of}
use Rattle.form.specs.declared.refusals.Refusal.TheVariants.{MixedList}
use Rattle.form.specs.declared.refusals.Refused.{Refused}
use Rattle.form.specs.Answer.{Out, no}
use Rattle.snbt_form.specs.Lexing.{Stops}
use Rattle.snbt_form.specs.Text.{Value, Row, Block, goes_on, closes, Last, otherwise, elements_by, square_at, known, entries_by, compound_at, value_at}
use Rattle.snbt_placing.specs.declared.Done.{Done}
use Rattle.snbt_due.specs.Due.{value_from}
use Rattle.snbt_entries.specs.Entries.{Entered, entry_turn}
use Rattle.snbt_entries.specs.declared.Block.{Block as Open}
use Rattle.snbt_entries.specs.declared.EntryTurn.{EntryTurn}
use Rattle.snbt.specs.Turns.{Ran, inner, name_before, Turned, Went, block_value, Rooted}
use Rattle.snbt_keys.specs.Keys.{Kept, names_in}
use Rattle.snbt_placing.specs.Done.{Did}
use Rattle.snbt.specs.declared.values.Elements.{Elements}

-- ---- one turn of a compound

-- An entry was read: its key is put among those of the open compound, and the keys of the compounds around it are as they were.
pub record Grown (res : Out Entered) (t o k : List ℕ) (base top at p : ℕ) (comma m used : ℕ) (o' k' : List ℕ) : Type 0 where
  pub turned : Turned res o at used (goes_on comma m) o'
  pub kept : Kept o' k' base (top + 1) used
  pub names : (s : List ℕ) → known s (name_before turned.entered (names_in o k base (top - base))) ≡ known s (names_in o' k' base (top + 1 - base))
  pub around : take base k' ≡ take base k
  pub far : p + 3 ≤ m
  pub within : m ≤ length t
  pub small : used ≤ 16 * m

-- Or the last of a compound, with the place of its `}`.
pub record Closed (res : Out Entered) (t o k : List ℕ) (base at p : ℕ) (place m used : ℕ) (o' k' : List ℕ) : Type 0 where
  pub turned : Turned res o at used (closes place m) o'
  pub around : take base k' ≡ take base k
  pub far : p < m
  pub within : m ≤ length t
  pub small : used + 1 ≤ 16 * m

-- The answer of a turn of a compound, with the output and the keys behind it.
abbrev pub TurnIs : Out Entered → List ℕ → List ℕ → List ℕ → ℕ → ℕ → ℕ → ℕ → Result EntryTurn Refused → List ℕ → List ℕ → Type 0
TurnIs res t o k base top at p (Ok (EntryTurn.More c m u)) o' k' = Grown res t o k base top at p c.0 m u o' k'
TurnIs res t o k base top at p (Ok (EntryTurn.Last i m u)) o' k' = Closed res t o k base at p i.0 m u o' k'
TurnIs res t o k base top at p (Err e) o' k' = res ≡ no (number_of e.refusal) e.place

-- ---- values

abbrev pub ValueIs : Out Value → List ℕ → List ℕ → List ℕ → ℕ → ℕ → ℕ → Result Done Refused → List ℕ → List ℕ → Type 0
ValueIs res t o k top at p (Ok d) o' k' = Did res o at d.next d.used d.kind o' × Went t k top p d.next d.used k'
ValueIs res t o k top at p (Err e) o' k' = res ≡ no (number_of e.refusal) e.place

-- The same of the elements of a list behind its first; there are no more of them than bytes of the text.
abbrev pub RunIs : Out Row → List ℕ → List ℕ → List ℕ → ℕ → ℕ → ℕ → Result Elements Refused → List ℕ → List ℕ → Type 0
RunIs res t o k top at p (Ok r) o' k' = Ran res o at r.next r.used r.count o' × Went t k top p r.next r.used k' × (r.count ≤ r.next)
RunIs res t o k top at p (Err e) o' k' = res ≡ no (number_of e.refusal) e.place

-- ---- the members of the cycle, each with what it leaves in the output o and the keys k

-- A value that is due at p, behind `at` bytes of the output, with so many keys and containers left.
abbrev pub ParsedValue : (t o k : List ℕ) (set : Stops) (want p at top left : ℕ) → Result Done Refused → (o' k' : List ℕ) → Type 0
ParsedValue t o k set want p at top left r o' k' = ValueIs (value_from t (length o) (value_at t (length o) left) set want p at) t o k top at p r o' k'

-- What a `[` at `brace` opens.
abbrev pub ParsedList : (t o k : List ℕ) (brace p at top left : ℕ) → Result Done Refused → (o' k' : List ℕ) → Type 0
ParsedList t o k brace p at top left r o' k' = ValueIs (square_at t (length o) left (inner t (length o) left) brace p at) t o k top at p r o' k'

-- The elements of a list behind one of a kind.
abbrev pub ParsedElements : (t o k : List ℕ) (kind p at top left : ℕ) → Result Elements Refused → (o' k' : List ℕ) → Type 0
ParsedElements t o k kind p at top left r o' k' =
    RunIs (elements_by t (length o) (suc (length t)) (value_at t (length o) left) kind p at) t o k top at p r o' k'

-- The compound that a `{` at `brace` opens.
abbrev pub ParsedCompound : (t o k : List ℕ) (brace p at top left : ℕ) → Result Done Refused → (o' k' : List ℕ) → Type 0
ParsedCompound t o k brace p at top left r o' k' =
    ValueIs (block_value (compound_at t (length o) left (inner t (length o) left) brace p at)) t o k top at p r o' k'

-- The entries of an open compound.
abbrev pub ParsedEntries : (t o k : List ℕ) (b : Open) (p at left : ℕ) → Result Done Refused → (o' k' : List ℕ) → Type 0
ParsedEntries t o k b p at left r o' k' =
    ValueIs (block_value (entries_by t (length o) (suc (length t)) (value_at t (length o) left) b.brace.0 [] otherwise p at)) t o k b.base at p r o' k'

-- One entry of it, or its end.
abbrev pub ParsedEntry : (t o k : List ℕ) (b : Open) (last : Last) (p at top left : ℕ) → Result EntryTurn Refused → (o' k' : List ℕ) → Type 0
ParsedEntry t o k b last p at top left r o' k' =
    TurnIs (entry_turn t (length o) (value_at t (length o) left) b.brace.0 (names_in o k b.base (top - b.base)) last p at) t o k b.base top at p r o' k'

-- An answer where a test holds, else refusal 11.
abbrev pub unless : Bool → Result Done Refused → ℕ → Result Done Refused
unless true r p = r
unless false r p = Err (record { refusal = MixedList; place = p })

-- The code's answer held to its list's kind.
abbrev pub held_done : ℕ → ℕ → Result Done Refused → Result Done Refused
held_done want p (Ok d) = unless (eqb want 0 || eqb d.kind want) (Ok d) p
held_done want p (Err e) = Err e

-- ---- the whole

abbrev pub RootIs : Out Block → List ℕ → Result Done Refused → List ℕ → Type 0
RootIs res o (Ok d) o' = Rooted res o d.next d.used o'
RootIs res o (Err e) o' = res ≡ no (number_of e.refusal) e.place
