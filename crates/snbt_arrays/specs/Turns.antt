-- What the contracts of an array's elements cite: the value of one, and one turn of the array's loop (rule 14).
-- Assumes nothing.
use Rattle.std.specs.Prelude.{ℕ, suc, ◌+◌, ◌≤◌, ◌<◌, ◌≡◌, ◌&&◌, List, [], ◌∷◌, ◌++◌, length, leb, eqb, ℤ, Option, Some, None, Result, Ok, Err}
use Rattle.form.specs.Refusals.{number_of}
use Rattle.form.specs.declared.refusals.Refused.{Refused}
use Rattle.form.specs.Answer.{Out, got, no, ◌>>=◌, ◌>>◌, guard, mixed_list, output_full}
use Rattle.form.specs.Numbers.{FitsIn}
use Rattle.form.specs.Spans.{over}
use Rattle.form.specs.Layout.{int_bytes, ints_bytes}
use Rattle.snbt_form.specs.Lexing.{Token, TokenData}
use Rattle.snbt_form.specs.Text.{Ints, Last, otherwise, after_comma, no_comma, element_int, in_range, ints_by}
use Rattle.snbt_arrays.specs.declared.elements.ElementTurn.{ElementTurn}
use Rattle.snbt_arrays.specs.declared.elements.ElementTurn.TheVariants.{Comma, Element, End}

-- What a token's value is as an element of w bytes; an integer that is one fits them.
abbrev pub WholeIs : ℕ → Token → Option ℤ → Type 0
WholeIs w k (Some z) = ((p : ℕ) → element_int w k p ≡ got z) × FitsIn w z
WholeIs w k None = (p : ℕ) → element_int w k p ≡ no mixed_list p

-- A whole number whose own width is `own`, as such an element.
abbrev pub FittingIs : ℕ → ℕ → ℤ → Option ℤ → Type 0
FittingIs own w v (Some z) = ((p : ℕ) → (guard (eqb own w && in_range w v) mixed_list p >> got v) ≡ got z) × FitsIn w z
FittingIs own w v None = (p : ℕ) → (guard (eqb own w && in_range w v) mixed_list p >> got v) ≡ no mixed_list p

-- The rest of an array behind some elements.
abbrev pub behind_all : List ℤ → Ints → Out Ints
behind_all zs r = got (record { values = zs ++ r.values; next = r.next; used = r.used })

-- One turn takes the text from p on to n, and what was to be read is what is still to be read, whatever bounds the turns.
pub record OneTurn (t : List ℕ) (p n : ℕ) (before after : ℕ → Out Ints) : Type 0 where
  pub on : p < n
  pub within : n ≤ length t
  pub is : (f : ℕ) → before (suc f) ≡ after f

-- An element that is written at u: its value (11), then its room (13).
abbrev pub element_fits : ℕ → ℕ → TokenData → ℕ → Out ℤ
element_fits room w d u = do
  z ← element_int w d.token d.index
  guard (leb (u + w) room) output_full d.index
  got z

-- The turn of an element is none of the other turns.
abbrev pub PutIs : ℕ → TokenData → ℕ → ℕ → List ℕ → Result ElementTurn Refused → List ℕ → Type 0
PutIs w d n u o (Ok (Comma i m)) o' = ⊥
PutIs w d n u o (Ok (Element m)) o' = (z : ℤ) × (element_fits (length o) w d u ≡ got z) × (m ≡ n) × (u + w ≤ length o) × (o' ≡ over o u (int_bytes w z))
PutIs w d n u o (Ok (End m)) o' = ⊥
PutIs w d n u o (Err e) o' = element_fits (length o) w d u ≡ no (number_of e.refusal) e.place

-- The closing brace ends the array at n, unless a comma stands last (21).
abbrev pub ClosedIs : Last → ℕ → Result ElementTurn Refused → Type 0
ClosedIs last n (Ok (Comma i m)) = ⊥
ClosedIs last n (Ok (Element m)) = ⊥
ClosedIs last n (Ok (End m)) = (no_comma last ≡ got tt) × (m ≡ n)
ClosedIs last n (Err e) = no_comma last ≡ no (number_of e.refusal) e.place

-- A comma and the closing brace change no output; an element stands in it from u on.
abbrev pub TurnIs : List ℕ → ℕ → ℕ → Last → ℕ → ℕ → List ℕ → Result ElementTurn Refused → List ℕ → Type 0
TurnIs t w brace last p u o (Ok (Comma i n)) o' =
    OneTurn t p n (λ f. ints_by t (length o) f w brace last p u) (λ f. ints_by t (length o) f w brace (after_comma i.0) n u) × (o' ≡ o)
TurnIs t w brace last p u o (Ok (Element n)) o' =
    (z : ℤ) × OneTurn t p n (λ f. ints_by t (length o) f w brace last p u) (λ f. ints_by t (length o) f w brace otherwise n (u + w) >>= behind_all (z ∷ []))
    × (u + w ≤ length o) × (o' ≡ over o u (int_bytes w z))
TurnIs t w brace last p u o (Ok (End n)) o' =
    OneTurn t p n (λ f. ints_by t (length o) f w brace last p u) (λ f. got (record { values = []; next = n; used = u })) × (o' ≡ o)
TurnIs t w brace last p u o (Err e) o' = (f : ℕ) → ints_by t (length o) (suc f) w brace last p u ≡ no (number_of e.refusal) e.place

-- An array whose elements are read up to `place`: `done` are those so far, and they stand in the output behind the four bytes of the count.
-- What the definition says from here on, behind `done`, is what it says from the start on; the turns left suffice.
pub record Gathering (t o : List ℕ) (w brace start at : ℕ) (last : Last) (place used count : ℕ) (o' : List ℕ) : Type 0 where
  pub turns : ℕ
  pub done : List ℤ
  pub enough : length t < place + turns
  pub from : start ≤ place
  pub within : place ≤ length t
  pub rest : (ints_by t (length o) turns w brace last place used >>= behind_all done) ≡ ints_by t (length o) (suc (length t)) w brace otherwise start (at + 4)
  pub counted : count ≡ length done
  pub few : count ≤ used
  pub used_is : used ≡ at + 4 + length (ints_bytes w done)
  pub fits : used ≤ length o
  pub wrote : o' ≡ over o (at + 4) (ints_bytes w done)
