-- What the contracts of entries around their values cite (rule 15): one turn of a compound, and what each answer means.
-- Assumes nothing.
use Rattle.std.specs.Prelude.{ℕ, ◌+◌, ◌-◌, ◌*◌, ◌≤◌, ◌<◌, ◌≡◌, Bool, true, false, List, [], ◌∷◌, eqb, length, take, Result, Ok, Err}
use Rattle.form.specs.Refusals.{number_of}
use Rattle.form.specs.declared.refusals.Refused.{Refused}
use Rattle.form.specs.Answer.{Out, got, no, ◌>>=◌, ◌>>◌, unmatched_brace}
use Rattle.form.specs.Spans.{over}
use Rattle.form.specs.Tree as tree
use Rattle.snbt_form.specs.Lexing.{key, value, TokenData}
use Rattle.snbt_form.specs.Text.{Value, Next, Then, goes_on, closes, Last, no_comma, Reads, sign_of, due, following, colon_at, close_at, entry_at}
use Rattle.snbt_placing.specs.declared.Done.{Done}
use Rattle.snbt_keys.specs.Keys.{FreeAt, names_in}
use Rattle.snbt_due.specs.Due.{value_from}
use Rattle.snbt_entries.specs.declared.Key.{Key}
use Rattle.snbt_entries.specs.declared.EntryTurn.{EntryTurn}

-- ---- one turn of a compound

-- What stands where a key is due: the `}`; or an entry, with what follows it.
pub data Entered : Type 0 where
  stops : ℕ → ℕ → Entered
  enters : List ℕ → Value → Then → Entered

module _ (t : List ℕ) (room : ℕ) where
  -- By whether a `}` stands there: refused with 21 behind a comma.
  abbrev pub turn_by : Bool → Reads → ℕ → List (List ℕ) → Last → Next → ℕ → Out Entered
  turn_by true val brace earlier last x u = do
    no_comma last
    got (stops x.td.index x.next)
  turn_by false val brace earlier last x u = do
    e ← entry_at t room val brace earlier x u
    s ← following t room 125 e.1.next unmatched_brace brace
    got (enters e.0 e.1 s)

  -- One turn of `entries_by`.
  unfoldable pub entry_turn : Reads → ℕ → List (List ℕ) → Last → ℕ → ℕ → Out Entered
  entry_turn val brace earlier last p u = do
    x ← due t room key p unmatched_brace brace
    turn_by (eqb (sign_of x.td.token) 125) val brace earlier last x u

-- ---- keys

-- The `:` behind a key, with the place behind it.
abbrev pub ColonIs : List ℕ → ℕ → ℕ → Result ℕ Refused → Type 0
ColonIs t brace p (Ok m) = ((room : ℕ) → colon_at t room brace p ≡ got m) × (p < m) × (m ≤ length t)
ColonIs t brace p (Err e) = (room : ℕ) → colon_at t room brace p ≡ no (number_of e.refusal) e.place

-- A key from place p on, with the place m behind its `:`: its name is in the buffer, and belongs at index i of the keys.
pub record Fit (t : List ℕ) (p : ℕ) (o k : List ℕ) (base top : ℕ) (buffer name : List ℕ) (n i m : ℕ) : Type 0 where
  pub stands : take n buffer ≡ name
  pub length_is : n ≡ length name
  pub short : n ≤ 65535
  pub free : FreeAt o k base top name i
  pub within : m ≤ length t
  pub small : 3 + n + 16 * p ≤ 16 * m
  pub far : p + 2 ≤ m

-- The same as a turn of a compound.
pub record Keyed (t : List ℕ) (brace : ℕ) (last : Last) (p : ℕ) (o k : List ℕ) (base top : ℕ) (buffer : List ℕ) (n i m : ℕ) : Type 0 where
  pub name : List ℕ
  pub is : (room : ℕ) (val : Reads) (u : ℕ) → entry_turn t room val brace (names_in o k base (top - base)) last p u
      ≡ (value_from t room val value 0 m (u + (3 + length name)) >>= (λ v. following t room 125 v.next unmatched_brace brace >>= (λ s. got (enters name v s))))
  pub fit : Fit t p o k base top buffer name n i m

-- The same by the key's token, of which an entry's definition speaks.
pub record NameIs (t : List ℕ) (x : TokenData) (next brace : ℕ) (o k : List ℕ) (base top : ℕ) (buffer : List ℕ) (n i m : ℕ) : Type 0 where
  pub name : List ℕ
  pub is : (room : ℕ) (val : Reads) (u : ℕ) → entry_at t room val brace (names_in o k base (top - base)) (record { td = x; next = next }) u
      ≡ (value_from t room val value 0 m (u + (3 + length name)) >>= (λ v. got (name, v)))
  pub fit : Fit t x.index o k base top buffer name n i m

-- The answer by a key's token: such a key, or a refusal.
abbrev pub NamedIs : List ℕ → TokenData → ℕ → ℕ → List ℕ → List ℕ → ℕ → ℕ → List ℕ → Result Key Refused → Type 0
NamedIs t x next brace o k base top buffer (Ok (Key.End i m)) = ⊥
NamedIs t x next brace o k base top buffer (Ok (Key.Is n i m)) = NameIs t x next brace o k base top buffer n i m
NamedIs t x next brace o k base top buffer (Err e) =
    (room : ℕ) (val : Reads) (u : ℕ) → entry_at t room val brace (names_in o k base (top - base)) (record { td = x; next = next }) u ≡ no (number_of e.refusal) e.place

-- The `}` at i where a key is due, unless a comma stands last (21).
abbrev pub EndedIs : Last → ℕ → ℕ → Result Key Refused → Type 0
EndedIs last i n (Ok (Key.End j m)) = (no_comma last ≡ got tt) × (j.0 ≡ i) × (m ≡ n)
EndedIs last i n (Ok (Key.Is k j m)) = ⊥
EndedIs last i n (Err e) = no_comma last ≡ no (number_of e.refusal) e.place

-- The answer where a key is due: the `}`, a key, or a refusal.
abbrev pub KeyedIs : List ℕ → ℕ → Last → ℕ → List ℕ → List ℕ → ℕ → ℕ → List ℕ → Result Key Refused → Type 0
KeyedIs t brace last p o k base top buffer (Ok (Key.End i m)) =
    ((room : ℕ) (val : Reads) (u : ℕ) → entry_turn t room val brace (names_in o k base (top - base)) last p u ≡ got (stops i.0 m)) × (p < m) × (m ≤ length t)
KeyedIs t brace last p o k base top buffer (Ok (Key.Is n i m)) = Keyed t brace last p o k base top buffer n i m
KeyedIs t brace last p o k base top buffer (Err e) =
    (room : ℕ) (val : Reads) (u : ℕ) → entry_turn t room val brace (names_in o k base (top - base)) last p u ≡ no (number_of e.refusal) e.place

-- What follows an entry that ends at p, with u bytes used.
abbrev pub SettledIs : List ℕ → ℕ → ℕ → ℕ → Result EntryTurn Refused → Type 0
SettledIs t p u brace (Ok (EntryTurn.More c m q)) = ((room : ℕ) → following t room 125 p unmatched_brace brace ≡ got (goes_on c.0 m)) × (p < m) × (m ≤ length t) × (q ≡ u)
SettledIs t p u brace (Ok (EntryTurn.Last i m q)) = ((room : ℕ) → following t room 125 p unmatched_brace brace ≡ got (closes i.0 m)) × (p < m) × (m ≤ length t) × (q ≡ u)
SettledIs t p u brace (Err e) = (room : ℕ) → following t room 125 p unmatched_brace brace ≡ no (number_of e.refusal) e.place

-- The end of a compound: its end byte is written, or has no room.
abbrev pub CloseIs : List ℕ → ℕ → ℕ → ℕ → Result Done Refused → List ℕ → Type 0
CloseIs o p m u (Ok d) o' =
    ((t : List ℕ) → close_at t (length o) p m u ≡ got (record { entries = tree.ended; next = m; used = u + 1 })) × (d.next ≡ m) × (d.used ≡ u + 1) × (d.kind ≡ 10) × (d.used ≤ length o) × (o' ≡ over o u (0 ∷ []))
CloseIs o p m u (Err e) o' = (t : List ℕ) → close_at t (length o) p m u ≡ no (number_of e.refusal) e.place
