-- Laws of spans of a function.
-- Assumes nothing.
use Prim.Native.Nat.{ℕ, zero, suc, ◌+◌, ◌≤◌, ◌<◌}
use mathlib.Core.Path.{◌≡◌, refl, ap, ap₂, ◌∙◌}
use mathlib.Core.List.{List, [], ◌∷◌, ◌++◌}
use native.Mathlib.Omega.{arith}
use lib.ListN.{length, get_or}
use Rattle.query_steps.specs.Steps.{span}

-- One more at the end.
pub span-snoc : {A : Type 0} (f : ℕ → A) (k n : ℕ) → span f k (suc n) ≡ span f k n ++ (f (k + n) ∷ [])
unfolding span
span-snoc f k zero = let a : k + 0 ≡ k = omega arith in rw a
span-snoc f k (suc n) = let a : k + suc n ≡ suc k + n = omega arith in rw a (ap (λ l. f k ∷ l) (span-snoc f (suc k) n))

-- It has as many.
pub span-length : {A : Type 0} (f : ℕ → A) (k n : ℕ) → length (span f k n) ≡ n
unfolding span
span-length f k zero = refl
span-length f k (suc n) = ap suc (span-length f (suc k) n)

-- A list that has f's values is its span.
pub span-is : {A : Type 0} (f : ℕ → A) (d : A) (l : List A) (k n : ℕ) → length l ≡ n → ((i : ℕ) → i < n → get_or l i d ≡ f (k + i)) → l ≡ span f k n
unfolding span
span-is f d [] k zero e h = refl
span-is f d [] k (suc n) e h = absurd (omega (arith, e))
span-is f d (x ∷ l) k zero e h = absurd (omega (arith, e))
span-is f d (x ∷ l) k (suc n) e h =
    let a : k + 0 ≡ k = omega arith in
    ap₂ ◌∷◌ (h 0 (omega arith) ∙ ap f a) (span-is f d l (suc k) n (omega (arith, e)) (λ i m. let b : k + suc i ≡ suc k + i = omega arith in h (suc i) (omega (arith, m)) ∙ ap f b))

-- Two functions that agree from k on, on n numbers.
pub span_same : {A : Type 0} (f g : ℕ → A) (k n : ℕ) → ((i : ℕ) → k ≤ i → i < k + n → f i ≡ g i) → span f k n ≡ span g k n
unfolding span
span_same f g k zero h = refl
span_same f g k (suc n) h =
    let a = h k (omega arith) (omega arith) in
    rw a (ap (λ l. g k ∷ l) (span_same f g (suc k) n (λ i le lt. h i (omega arith) (omega arith))))
