-- Laws of a compound's entries (rule 15): each way through a definition, one law a path.
-- Assumes nothing.
use Prim.Native.Nat.{ℕ, ◌+◌}
use mathlib.Core.Path.{◌≡◌, refl, sym}
use mathlib.Core.Bool.{true, false}
use mathlib.Core.List.{List}
use borrow.Author.Tests.{eq-eqb, ne_eqb}
use lib.ListN.{length}
use Rattle.form.specs.Answer.{Out, got, no, ◌>>=◌, ◌>>◌, name_twice, unexpected_token, text_ends, unmatched_brace}
use Rattle.snbt_form.specs.Lexing.{default, key, value}
use Rattle.snbt_form.specs.Text.{Value, Next, Last, no_comma, Reads, sign_of, due, following, colon_at, known, key_of, entry_at}
use Rattle.snbt_due.specs.Due.{value_from}
use Rattle.snbt_due.proofs.Reading.{bind_assoc}
use Rattle.snbt_entries.specs.Entries.{stops, enters, entry_turn}

-- ---- the colon

module _ (t : List ℕ) (room brace p : ℕ) where
  pub colon-no : (a b : ℕ) → due t room default p unmatched_brace brace ≡ no a b → colon_at t room brace p ≡ no a b
  unfolding colon_at
  colon-no a b e = rw e refl

  module _ (x : Next) (e : due t room default p unmatched_brace brace ≡ got x) where
    pub colon-other : (sign_of x.td.token ≡ 58 → ⊥) → colon_at t room brace p ≡ no unexpected_token x.td.index
    unfolding colon_at
    colon-other h = rw (e, ne_eqb (sign_of x.td.token) 58 h) refl

    pub colon-is : sign_of x.td.token ≡ 58 → colon_at t room brace p ≡ got x.next
    unfolding colon_at
    colon-is h = rw (e, eq-eqb (sign_of x.td.token) 58 h) refl

-- ---- an entry

module _ (t : List ℕ) (room : ℕ) (val : Reads) (brace : ℕ) (earlier : List (List ℕ)) (x : Next) (u : ℕ) where
  pub entry-key-no : (a b : ℕ) → key_of t room x.td.token x.td.index ≡ no a b → entry_at t room val brace earlier x u ≡ no a b
  unfolding entry_at
  entry-key-no a b e = rw e refl

  module _ (s : List ℕ) (e : key_of t room x.td.token x.td.index ≡ got s) where
    pub entry-twice : known s earlier ≡ true → entry_at t room val brace earlier x u ≡ no name_twice x.td.index
    unfolding entry_at
    entry-twice h = rw (e, h) refl

    module _ (h : known s earlier ≡ false) where
      pub entry-colon-no : (a b : ℕ) → colon_at t room brace x.next ≡ no a b → entry_at t room val brace earlier x u ≡ no a b
      unfolding entry_at
      entry-colon-no a b g = rw (e, h, g) refl

      pub entry_value : (m : ℕ) → colon_at t room brace x.next ≡ got m
          → entry_at t room val brace earlier x u ≡ (value_from t room val value 0 m (u + (3 + length s)) >>= (λ v. got (s, v)))
      unfolding entry_at value_from
      entry_value m g =
          rw (e, h, g)
          (sym (bind_assoc (due t room value m text_ends (length t)) (λ y. val 0 y.td y.next (u + (3 + length s))) (λ v. got (s, v))))

-- ---- one turn of a compound

module _ (t : List ℕ) (room : ℕ) (val : Reads) (brace : ℕ) (earlier : List (List ℕ)) (last : Last) (p u : ℕ) where
  pub turn-no : (a b : ℕ) → due t room key p unmatched_brace brace ≡ no a b → entry_turn t room val brace earlier last p u ≡ no a b
  unfolding entry_turn
  turn-no a b e = rw e refl

  module _ (x : Next) (e : due t room key p unmatched_brace brace ≡ got x) where
    pub turn_end : sign_of x.td.token ≡ 125 → entry_turn t room val brace earlier last p u ≡ (no_comma last >> got (stops x.td.index x.next))
    unfolding entry_turn
    turn_end h = rw (e, eq-eqb (sign_of x.td.token) 125 h) refl

    module _ (h : sign_of x.td.token ≡ 125 → ⊥) where
      pub turn-entry-no : (a b : ℕ) → entry_at t room val brace earlier x u ≡ no a b → entry_turn t room val brace earlier last p u ≡ no a b
      unfolding entry_turn
      turn-entry-no a b g = rw (e, ne_eqb (sign_of x.td.token) 125 h, g) refl

      pub turn-entry : (s : List ℕ) (w : Out Value) → entry_at t room val brace earlier x u ≡ (w >>= (λ v. got (s, v)))
          → entry_turn t room val brace earlier last p u ≡ (w >>= (λ v. following t room 125 v.next unmatched_brace brace >>= (λ th. got (enters s v th))))
      unfolding entry_turn
      turn-entry s w g =
          rw (e, ne_eqb (sign_of x.td.token) 125 h, g)
          (bind_assoc w (λ v. got (s, v)) (λ y. following t room 125 y.1.next unmatched_brace brace >>= (λ th. got (enters y.0 y.1 th))))
