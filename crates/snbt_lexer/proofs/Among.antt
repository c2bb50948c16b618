-- A `match` on a byte with literals, as the definitions' `among`.
-- Assumes nothing.
use Prim.Native.Nat.{ℕ, ◌+◌, ◌≤◌, ◌<◌}
use mathlib.Core.Path.{◌≡◌, refl}
use mathlib.Core.Bool.{Bool, true, false}
use mathlib.Core.Logic.{⊎_elim, ◌⊎◌, inl, inr}
use mathlib.Core.List.{List, [], ◌∷◌}
use native.Mathlib.Nat.{eq-or-lt_of_le}
use native.Mathlib.Omega.{arith}
use lib.Dec.{eqb}
use borrow.Author.Tests.{eq-eqb, ne_eqb}
use Rattle.form.specs.Answer.{pick}
use Rattle.snbt_form.specs.Lexing.{among, blank, stop_set}
use Rattle.snbt_tokens.specs.Answers.{stops_is}
use Rattle.snbt_tokens.specs.declared.Stops.{Stops}
use Rattle.snbt_tokens.specs.declared.Stops.TheVariants.{Key}

-- What an arm `x | y | z =>` knows of its byte.
abbrev pub Keys : ℕ → List ℕ → Type 0
Keys b [] = ⊥
Keys b (x ∷ []) = b ≡ x
Keys b (x ∷ y ∷ l) = (b ≡ x) ⊎ Keys b (y ∷ l)

head_in : (b x : ℕ) (l : List ℕ) → b ≡ x → true ≡ among (x ∷ l) b
unfolding among
head_in b x l e = rw (eq-eqb b x e)

tail-in : (b x : ℕ) (l : List ℕ) → true ≡ among l b → true ≡ among (x ∷ l) b
unfolding among
tail-in b x l = go (eqb b x) (among l b)
  where
    go : (t v : Bool) → true ≡ v → true ≡ pick t true v
    go true v e = refl
    go false v e = e

pub is_in : (l : List ℕ) (b : ℕ) → Keys b l → true ≡ among l b
is_in [] b k = absurd k
is_in (x ∷ []) b k = head_in b x [] k
is_in (x ∷ y ∷ l) b (inl e) = head_in b x (y ∷ l) e
is_in (x ∷ y ∷ l) b (inr k) = tail-in b x (y ∷ l) (is_in (y ∷ l) b k)

pub is-out : (l : List ℕ) (b : ℕ) → (Keys b l → ⊥) → false ≡ among l b
unfolding among
is-out [] b k = refl
is-out (x ∷ []) b k = rw (ne_eqb b x k)
is-out (x ∷ y ∷ l) b k = rw (ne_eqb b x (λ e. k (inl e))) (is-out (y ∷ l) b (λ z. k (inr z)))

-- ---- blanks

-- none of the five
pub blank-out : (b : ℕ) → (b ≡ 9 → ⊥) → (b ≡ 10 → ⊥) → (b ≡ 12 → ⊥) → (b ≡ 13 → ⊥) → (b ≡ 32 → ⊥) → false ≡ blank b
unfolding among
blank-out b x₁ x₂ x₃ x₄ x₅ = rw (ne_eqb b 9 x₁, ne_eqb b 10 x₂, ne_eqb b 12 x₃, ne_eqb b 13 x₄, ne_eqb b 32 x₅) refl

-- one of two neighbours, which an arm knows as a range
pub two-blanks : (b n : ℕ) → true ≡ blank n → true ≡ blank (n + 1) → n ≤ b → b < n + 2 → true ≡ blank b
two-blanks b n p q h k = ⊎_elim (λ e. rw (← e) p) (λ l. let e : b ≡ n + 1 = omega arith in rw e q) (eq-or-lt_of_le h)

-- ---- a set of stop characters

pub stop-in : (set v : Stops) (b : ℕ) → set ≡ v → Keys b (stop_set (stops_is v)) → true ≡ among (stop_set (stops_is set)) b
stop-in set v b e k = rw e (is_in (stop_set (stops_is v)) b k)

pub stop-out : (set v : Stops) (b : ℕ) → set ≡ v → (Keys b (stop_set (stops_is v)) → ⊥) → false ≡ among (stop_set (stops_is set)) b
stop-out set v b e k = rw e (is-out (stop_set (stops_is v)) b k)

-- a set of one, tested by itself
pub stop-key : (set : Stops) (b : ℕ) → set ≡ Key → eqb b 58 ≡ among (stop_set (stops_is set)) b
unfolding among
stop-key set b e = rw e (go (eqb b 58))
  where
    go : (t : Bool) → t ≡ pick t true false
    go true = refl
    go false = refl
