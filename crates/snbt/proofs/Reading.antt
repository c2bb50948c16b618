-- Laws of compounds and values by their definitions: a compound's entries turn by turn, and a value by its first token.
-- Assumes nothing.
use Prim.Native.Nat.{ℕ, zero, suc, ◌-◌, ◌≤◌, ◌<◌}
use mathlib.Core.Path.{◌≡◌, refl, sym, ap, ◌∙◌}
use mathlib.Core.Bool.{Bool, true, false}
use mathlib.Core.List.{List, [], ◌∷◌}
use native.Mathlib.Omega.{arith}
use borrow.Author.Tests.{lt-ltb, le-ltb, le-leb, lt-leb, eq-eqb, ne_eqb}
use lib.Dec.{eqb}
use lib.ListN.{length}
use Rattle.form.specs.Answer.{Out, got, no, ◌>>=◌, ◌>>◌, too_deep, output_full, unmatched_brace}
use Rattle.form.specs.Tree as tree
use Rattle.snbt_form.specs.Lexing.{key, TokenData}
use Rattle.snbt_form.specs.Text.{Value, Block, Next, Then, goes_on, closes, Last, otherwise, after_comma, no_comma, Reads}
use Rattle.snbt_form.specs.Text.{sign_of, due, following, alike, known, key_of, close_at, behind, entry_at, entries_by, square_at, compound_at, value_by, value_at, scalar_value}
use Rattle.snbt_due.proofs.Reading.{bind-cong}
use Rattle.snbt_entries.specs.Entries.{Entered, stops, enters, turn_by, entry_turn}
use Rattle.snbt.specs.Turns.{inner, then_of, used_of, before, name_before, block_value, held}

-- ---- a compound's entries, turn by turn

-- what was entered before the rest of a compound
abbrev pub joined : Entered → Block → Out Block
joined e r = got (record { entries = before e r.entries; next = r.next; used = r.used })

-- What is read behind a turn.
abbrev pub after_turn : List ℕ → ℕ → ℕ → Reads → ℕ → List (List ℕ) → ℕ → Entered → Out Block
after_turn t room f val brace earlier u e =
    behind t room (λ i n. entries_by t room f val brace (name_before e earlier) (after_comma i) n (used_of e u)) (used_of e u) (then_of e) >>= joined e

module _ (t : List ℕ) (room f : ℕ) (val : Reads) (brace : ℕ) (earlier : List (List ℕ)) (last : Last) (p u : ℕ) where
  same_block : (o : Out Block) → o ≡ (o >>= (λ r. got (record { entries = r.entries; next = r.next; used = r.used })))
  same_block (got b) = refl
  same_block (no n q) = refl

  abbrev goes_behind : List ℕ → Value → Then → Out Block
  goes_behind s v th = behind t room (λ i n. entries_by t room f val brace (s ∷ earlier) (after_comma i) n v.used) v.used th >>= joined (enters s v th)

  abbrev the_end : Next → Out Block
  the_end x = no_comma last >> close_at t room x.td.index x.next u

  abbrev the_entry : Next → Out Block
  the_entry x =
      entry_at t room val brace earlier x u
      >>= (λ e. following t room 125 e.1.next unmatched_brace brace >>= goes_behind e.0 e.1)

  -- A compound is read turn by turn.
  pub entries-turn : entries_by t room (suc f) val brace earlier last p u
      ≡ (entry_turn t room val brace earlier last p u >>= after_turn t room f val brace earlier u)
  unfolding entries_by entry_turn
  entries-turn = go (due t room key p unmatched_brace brace)
    where
      ended_at : (x : Next) (s : Last) → (no_comma s >> close_at t room x.td.index x.next u)
          ≡ ((no_comma s >> got (stops x.td.index x.next)) >>= after_turn t room f val brace earlier u)
      ended_at x otherwise = same_block (close_at t room x.td.index x.next u)
      ended_at x (after_comma i) = refl

      followed : (s : List ℕ) (v : Value) (o : Out Then) → (o >>= goes_behind s v) ≡ ((o >>= (λ th. got (enters s v th))) >>= after_turn t room f val brace earlier u)
      followed s v (got th) = refl
      followed s v (no a b) = refl

      entered : (o : Out (List ℕ × Value)) → (o >>= (λ e. following t room 125 e.1.next unmatched_brace brace >>= goes_behind e.0 e.1))
          ≡ ((o >>= (λ e. following t room 125 e.1.next unmatched_brace brace >>= (λ s. got (enters e.0 e.1 s)))) >>= after_turn t room f val brace earlier u)
      entered (got e) = followed e.0 e.1 (following t room 125 e.1.next unmatched_brace brace)
      entered (no a b) = refl

      by_sign : (x : Next) (b : Bool) →
          elim b [
            | true ↦ the_end x
            | false ↦ the_entry x
          ]
          ≡ (turn_by t room b val brace earlier last x u >>= after_turn t room f val brace earlier u)
      by_sign x true = ended_at x last
      by_sign x false = entered (entry_at t room val brace earlier x u)

      go : (o : Out Next) → (o >>= (λ x. elim (eqb (sign_of x.td.token) 125) [
        | true ↦ the_end x
        | false ↦ the_entry x
      ]))
          ≡ ((o >>= (λ x. turn_by t room (eqb (sign_of x.td.token) 125) val brace earlier last x u)) >>= after_turn t room f val brace earlier u)
      go (got x) = by_sign x (eqb (sign_of x.td.token) 125)
      go (no a b) = refl

-- Names that know the same keys.
abbrev pub Alike : List (List ℕ) → List (List ℕ) → Type 0
Alike e₁ e₂ = (s : List ℕ) → known s e₁ ≡ known s e₂

-- They give the same.
module _ (t : List ℕ) (room : ℕ) (val : Reads) (brace : ℕ) where
  entry_known : (e₁ e₂ : List (List ℕ)) → Alike e₁ e₂ → (x : Next) (u : ℕ) → entry_at t room val brace e₁ x u ≡ entry_at t room val brace e₂ x u
  unfolding entry_at
  entry_known e₁ e₂ h x u = bind-cong (key_of t room x.td.token x.td.index) _ _ (λ s. rw (h s) refl)

  turn-known : (e₁ e₂ : List (List ℕ)) → Alike e₁ e₂ → (last : Last) (p u : ℕ) → entry_turn t room val brace e₁ last p u ≡ entry_turn t room val brace e₂ last p u
  unfolding entry_turn
  turn-known e₁ e₂ h last p u = bind-cong (due t room key p unmatched_brace brace) _ _ (λ x. by x (eqb (sign_of x.td.token) 125))
    where
      by : (x : Next) (b : Bool) → turn_by t room b val brace e₁ last x u ≡ turn_by t room b val brace e₂ last x u
      by x true = refl
      by x false =
          ap (λ o. o >>= (λ e. following t room 125 e.1.next unmatched_brace brace >>= (λ s. got (enters e.0 e.1 s)))) (entry_known e₁ e₂ h x u)

  name-known : (e₁ e₂ : List (List ℕ)) → Alike e₁ e₂ → (e : Entered) → Alike (name_before e e₁) (name_before e e₂)
  unfolding known
  name-known e₁ e₂ h (stops i n) s = h s
  name-known e₁ e₂ h (enters m v th) s = rw (h s) refl

  entries_none : (e : List (List ℕ)) (last : Last) (p u : ℕ) → entries_by t room zero val brace e last p u ≡ no 0 0
  unfolding entries_by
  entries_none e last p u = refl

  -- the entries behind a comma
  abbrev rest_behind : ℕ → ℕ → List (List ℕ) → Entered → ℕ → ℕ → Out Block
  rest_behind f u ns e i n = entries_by t room f val brace (name_before e ns) (after_comma i) n (used_of e u)

  pub entries-known : (f : ℕ) (e₁ e₂ : List (List ℕ)) → Alike e₁ e₂ → (last : Last) (p u : ℕ)
      → entries_by t room f val brace e₁ last p u ≡ entries_by t room f val brace e₂ last p u
  entries-known zero e₁ e₂ h last p u = entries_none e₁ last p u ∙ sym (entries_none e₂ last p u)
  entries-known (suc f) e₁ e₂ h last p u =
      entries-turn t room f val brace e₁ last p u
      ∙ rw (turn-known e₁ e₂ h last p u)
      (bind-cong (entry_turn t room val brace e₂ last p u) _ _
      (λ e. after e (then_of e) (λ i n. entries-known f (name_before e e₁) (name_before e e₂) (name-known e₁ e₂ h e) (after_comma i) n (used_of e u))))
      ∙ sym (entries-turn t room f val brace e₂ last p u)
    where
      after : (e : Entered) (th : Then) → ((i n : ℕ) → rest_behind f u e₁ e i n ≡ rest_behind f u e₂ e i n)
          → (behind t room (rest_behind f u e₁ e) (used_of e u) th >>= joined e) ≡ (behind t room (rest_behind f u e₂ e) (used_of e u) th >>= joined e)
      after e (goes_on i n) g = rw (g i n) refl
      after e (closes i n) g = refl

-- ---- a compound and a value

module _ (t : List ℕ) (room left : ℕ) (val : Reads) (brace p u : ℕ) where
  pub compound-deep : left ≡ 0 → compound_at t room left val brace p u ≡ no too_deep brace
  unfolding compound_at
  compound-deep h = rw (le-ltb 0 left (omega arith)) refl

  pub compound-full : (left ≡ 0 → ⊥) → room < u → compound_at t room left val brace p u ≡ no output_full brace
  unfolding compound_at
  compound-full h k = rw (lt-ltb 0 left (omega arith), lt-leb u room k) refl

  pub compound-in : (left ≡ 0 → ⊥) → u ≤ room → compound_at t room left val brace p u ≡ entries_by t room (suc (length t)) val brace [] otherwise p u
  unfolding compound_at
  compound-in h k = rw (lt-ltb 0 left (omega arith), le-leb u room k) refl

module _ (t : List ℕ) (room : ℕ) where
  pub value-unfold : (left : ℕ) → value_at t room left ≡ value_by t room left (inner t room left)
  unfolding value_at
  value-unfold zero = refl
  value-unfold (suc d) = refl

  pub inner_is : (left : ℕ) → (left ≡ 0 → ⊥) → inner t room left ≡ value_at t room (left - 1)
  inner_is zero h = absurd (h refl)
  inner_is (suc d) h = ap (value_at t room) (less d)
    where
      less : (d : ℕ) → d ≡ suc d - 1
      less d = omega arith

  module _ (left : ℕ) (val : Reads) (want : ℕ) (x : TokenData) (n u : ℕ) where
    held-block : (o : Out Block) → (o >>= (λ b. alike t room want (tree.compound b.entries) x.index
        >> got (record { tag = tree.compound b.entries; next = b.next; used = b.used }))) ≡ held want x.index (block_value o)
    held-block (got b) = refl
    held-block (no a q) = refl

    held-value : (o : Out Value) → (o >>= (λ v. alike t room want v.tag x.index >> got v)) ≡ held want x.index o
    held-value (got v) = refl
    held-value (no a q) = refl

    pub value-compound : sign_of x.token ≡ 123 → value_by t room left val want x n u ≡ held want x.index (block_value (compound_at t room left val x.index n u))
    unfolding value_by
    value-compound h = rw (value_by, eq-eqb (sign_of x.token) 123 h) (held-block (compound_at t room left val x.index n u))

    pub value-square : sign_of x.token ≡ 91 → value_by t room left val want x n u ≡ held want x.index (square_at t room left val x.index n u)
    unfolding value_by
    value-square h =
        rw (value_by, ne_eqb (sign_of x.token) 123 (λ g. omega (arith, g, h)), eq-eqb (sign_of x.token) 91 h)
        (held-value (square_at t room left val x.index n u))

    pub value-scalar : eqb (sign_of x.token) 123 ≡ false → eqb (sign_of x.token) 91 ≡ false → value_by t room left val want x n u ≡ scalar_value t room want x n u
    unfolding value_by
    value-scalar g h = rw (value_by, g, h) refl
