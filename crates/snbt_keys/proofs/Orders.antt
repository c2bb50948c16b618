-- Laws of the order of names by their bytes.
-- Assumes nothing.
use Prim.Native.Nat.{ℕ, ◌<◌}
use mathlib.Core.List.{List, [], ◌∷◌}
use mathlib.Core.Bool.{Bool, true, false, ◌&&◌, ◌||◌}
use mathlib.Core.Logic.{◌⊎◌, inl, inr}
use mathlib.Core.Path.{◌≡◌, refl, sym, ◌∙◌}
use native.Mathlib.Omega.{arith}
use borrow.Author.Tests.{ltb-true, eqb-true, lt-ltb, le-ltb, eq-eqb}
use lib.Dec.{ltb, eqb}
use Rattle.form.specs.Spans.{same}
use Rattle.std.specs.declared.cmp.Ordering.{Ordering}
use Rattle.std.specs.declared.cmp.Ordering.TheVariants.{Less, Equal, Greater}
use Rattle.std.specs.Ordering.{MatchOrdering, nat_cmp, ordering_then}
use Rattle.std.specs.Cmp.Lexicographic.{slice_cmp}
use Rattle.std.specs.Cmp.{ranks}
use Rattle.snbt_keys.specs.Keys.{below, OrderIs}
use Rattle.form.proofs.Spans.{same_true}

pub true-false : {A : Type 0} → true ≡ false → A
true-false e = let z : ◌≡◌ {A = ℕ} 0 1 = cc in absurd (omega arith)

pub not-true : (t : Bool) → (t ≡ true → ⊥) → t ≡ false
not-true true h = absurd (h refl)
not-true false h = refl

-- ---- below

-- by the first byte
pub below-head : (x y : ℕ) (xs ys : List ℕ) → x < y → below (x ∷ xs) (y ∷ ys) ≡ true
unfolding below
below-head x y xs ys h = rw (lt-ltb x y h) refl

-- by what follows a byte that both have
below-tail : (x : ℕ) (xs ys : List ℕ) → below (x ∷ xs) (x ∷ ys) ≡ below xs ys
unfolding below
below-tail x xs ys = rw (le-ltb x x (omega arith), eq-eqb x x refl) refl

-- and by nothing else
below-cases : (x y : ℕ) (xs ys : List ℕ) → below (x ∷ xs) (y ∷ ys) ≡ true → (x < y) ⊎ ((x ≡ y) × (below xs ys ≡ true))
unfolding below
below-cases x y xs ys e = go (ltb x y) (eqb x y) refl refl e
  where
    go : (t u : Bool) → ltb x y ≡ t → eqb x y ≡ u → (t || (u && below xs ys)) ≡ true → (x < y) ⊎ ((x ≡ y) × (below xs ys ≡ true))
    go true u p q f = inl (ltb-true x y p)
    go false true p q f = inr (eqb-true x y q, f)
    go false false p q f = true-false (sym f)

pub below-trans : (xs ys zs : List ℕ) → below xs ys ≡ true → below ys zs ≡ true → below xs zs ≡ true
unfolding below
below-trans [] [] zs e f = f
below-trans [] (y ∷ ys) [] e f = true-false (sym f)
below-trans [] (y ∷ ys) (z ∷ zs) e f = refl
below-trans (x ∷ xs) [] zs e f = true-false (sym e)
below-trans (x ∷ xs) (y ∷ ys) [] e f = true-false (sym f)
below-trans (x ∷ xs) (y ∷ ys) (z ∷ zs) e f = go (below-trans xs ys zs) (below-cases x y xs ys e) (below-cases y z ys zs f)
  where
    go : (below xs ys ≡ true → below ys zs ≡ true → below xs zs ≡ true)
        → (x < y) ⊎ ((x ≡ y) × (below xs ys ≡ true)) → (y < z) ⊎ ((y ≡ z) × (below ys zs ≡ true)) → below (x ∷ xs) (z ∷ zs) ≡ true
    go ih (inl h) (inl k) = below-head x z xs zs (omega arith)
    go ih (inl h) (inr k) = below-head x z xs zs (omega (arith, k.0))
    go ih (inr h) (inl k) = below-head x z xs zs (omega (arith, h.0))
    go ih (inr h) (inr k) = rw (h.0 ∙ k.0, below-tail z xs zs) (ih h.1 k.1)

pub below_self : (xs : List ℕ) → below xs xs ≡ false
unfolding below
below_self [] = refl
below_self (x ∷ xs) = below-tail x xs xs ∙ below_self xs

-- ---- the same

pub same_self : (xs : List ℕ) → same xs xs ≡ true
unfolding same
same_self [] = refl
same_self (x ∷ xs) = rw (eq-eqb x x refl) (same_self xs)

-- what is below another is not the same, either way
pub below_apart : (xs ys : List ℕ) → below xs ys ≡ true → same xs ys ≡ false
below_apart xs ys e = not-true (same xs ys) (λ p. true-false (sym e ∙ rw (same_true xs ys p) (below_self ys)))

pub above_apart : (xs ys : List ℕ) → below xs ys ≡ true → same ys xs ≡ false
above_apart xs ys e = not-true (same ys xs) (λ p. true-false (sym e ∙ rw (same_true ys xs p) (below_self xs)))

-- ---- the order that `cmp` of two slices answers

-- by the first two bytes, and where they are equal by what follows
order-cons : (x y : ℕ) (xs ys : List ℕ) (r : Ordering) → OrderIs xs ys r → MatchOrdering (nat_cmp x y) (x < y) (x ≡ y) (y < x)
    → OrderIs (x ∷ xs) (y ∷ ys) (ordering_then (nat_cmp x y) r)
order-cons x y xs ys r h w = go (nat_cmp x y) w r h
  where
    go : (q : Ordering) → MatchOrdering q (x < y) (x ≡ y) (y < x) → (r : Ordering) → OrderIs xs ys r → OrderIs (x ∷ xs) (y ∷ ys) (ordering_then q r)
    go Less l r h = below-head x y xs ys l
    go Equal e Less h = rw (e, below-tail y xs ys) h
    go Equal e Equal h = cc
    go Equal e Greater h = rw (e, below-tail y ys xs) h
    go Greater l r h = below-head y x ys xs l

pub order-is : (xs ys : List ℕ) → OrderIs xs ys (slice_cmp nat_cmp xs ys)
unfolding below
order-is [] [] = refl
order-is [] (y ∷ ys) = refl
order-is (x ∷ xs) [] = refl
order-is (x ∷ xs) (y ∷ ys) = order-cons x y xs ys (slice_cmp nat_cmp xs ys) (order-is xs ys) (ranks x y)
