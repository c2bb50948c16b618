-- Laws of spans: two lists compared, and the bytes of two spans from the front.
-- Assumes nothing.
use Prim.Native.Nat.{ℕ, zero, suc, ◌+◌, ◌-◌, ◌≤◌, ◌<◌}
use mathlib.Core.Bool.{Bool, true, false, true≢false, ◌&&◌}
use mathlib.Core.List.{List, [], ◌∷◌}
use mathlib.Core.Path.{◌≡◌, refl, sym, ap, ◌∙◌}
use native.Mathlib.Omega.{arith}
use native.Mathlib.Numerals.{sub-one, add-one}
use borrow.Author.Tests.{eq-eqb, ne_eqb, eqb-true}
use lib.ListN.{length, get_or, length-take, length-drop}
use lib.Seq.{drop-cons}
use lib.Dec.{eqb}
use Rattle.form.specs.Spans.{part, same}

-- ---- two lists

-- lists of two lengths differ
pub same-lengths : (xs ys : List ℕ) → (length xs ≡ length ys → ⊥) → same xs ys ≡ false
unfolding same
same-lengths [] [] h = absurd (h refl)
same-lengths [] (y ∷ ys) h = refl
same-lengths (x ∷ xs) [] h = refl
same-lengths (x ∷ xs) (y ∷ ys) h = go (eqb x y) (same-lengths xs ys (λ e. h (ap suc e)))
  where
    go : (b : Bool) → same xs ys ≡ false → (b && same xs ys) ≡ false
    go true rest = rest
    go false rest = refl

pub same-nil : same [] [] ≡ true
unfolding same
same-nil = refl

pub same_head : (x : ℕ) (xs ys : List ℕ) → same (x ∷ xs) (x ∷ ys) ≡ same xs ys
unfolding same
same_head x xs ys = rw (eq-eqb x x refl) refl

pub same_self : (xs : List ℕ) → same xs xs ≡ true
same_self [] = same-nil
same_self (x ∷ xs) = same_head x xs xs ∙ same_self xs

-- the same only where they are one list
pub same_true : (xs ys : List ℕ) → same xs ys ≡ true → xs ≡ ys
unfolding same
same_true [] [] e = refl
same_true [] (y ∷ ys) e = absurd (true≢false (sym e))
same_true (x ∷ xs) [] e = absurd (true≢false (sym e))
same_true (x ∷ xs) (y ∷ ys) e = go (eqb x y) refl (same_true xs ys) e
  where
    go : (t : Bool) → eqb x y ≡ t → (same xs ys ≡ true → xs ≡ ys) → (t && same xs ys) ≡ true → x ∷ xs ≡ y ∷ ys
    go true p ih f = λ i. eqb-true x y p i ∷ ih f i
    go false p ih f = absurd (true≢false (sym f))

pub same-differ : (x y : ℕ) (xs ys : List ℕ) → (x ≡ y → ⊥) → same (x ∷ xs) (y ∷ ys) ≡ false
unfolding same
same-differ x y xs ys h = rw (ne_eqb x y h) refl

-- ---- one span against another, from the front

pub part-cons : (doc : List ℕ) (a n : ℕ) → 0 < n → a < length doc → part doc a n ≡ get_or doc a 0 ∷ part doc (a + 1) (n - 1)
part-cons doc a zero h l = absurd (omega arith)
part-cons doc a (suc n) h l = rw (sub-one (suc n), add-one a, drop-cons doc a 0 l) refl

module _ (doc : List ℕ) (a b n : ℕ) (h : 0 < n) (la : a < length doc) (lb : b < length doc) where
  pub same_step : get_or doc a 0 ≡ get_or doc b 0 → same (part doc a n) (part doc b n) ≡ same (part doc (a + 1) (n - 1)) (part doc (b + 1) (n - 1))
  same_step e = rw (part-cons doc a n h la, part-cons doc b n h lb, e) (same_head (get_or doc b 0) _ _)

  pub same_stop : (get_or doc a 0 ≡ get_or doc b 0 → ⊥) → same (part doc a n) (part doc b n) ≡ false
  same_stop e = rw (part-cons doc a n h la, part-cons doc b n h lb) (same-differ _ _ _ _ e)

module _ (doc : List ℕ) (a b n i : ℕ) (h : i < n) (la : a + n ≤ length doc) (lb : b + n ≤ length doc) where
  pub same_next : get_or doc (a + i) 0 ≡ get_or doc (b + i) 0
      → same (part doc (a + i) (n - i)) (part doc (b + i) (n - i)) ≡ same (part doc (a + (i + 1)) (n - (i + 1))) (part doc (b + (i + 1)) (n - (i + 1)))
  same_next e =
      let p : a + (i + 1) ≡ a + i + 1 = omega arith in
      let q : b + (i + 1) ≡ b + i + 1 = omega arith in
      let r : n - (i + 1) ≡ n - i - 1 = omega arith in
      rw (p, q, r) (same_step doc (a + i) (b + i) (n - i) (omega arith) (omega arith) (omega arith) e)

  pub same-break : (get_or doc (a + i) 0 ≡ get_or doc (b + i) 0 → ⊥) → same (part doc (a + i) (n - i)) (part doc (b + i) (n - i)) ≡ false
  same-break e = same_stop doc (a + i) (b + i) (n - i) (omega arith) (omega arith) (omega arith) e

pub same_start : (doc : List ℕ) (a b n : ℕ) → same (part doc a n) (part doc b n) ≡ same (part doc (a + 0) (n - 0)) (part doc (b + 0) (n - 0))
same_start doc a b n =
    let p : a + 0 ≡ a = omega arith in
    let q : b + 0 ≡ b = omega arith in
    let r : n - 0 ≡ n = omega arith in
    rw (p, q, r) refl

pub same-done : (doc : List ℕ) (a b n : ℕ) → n ≤ 0 → same (part doc a n) (part doc b n) ≡ true
same-done doc a b zero h = same-nil
same-done doc a b (suc n) h = absurd (omega arith)

pub part_length : (doc : List ℕ) (a n : ℕ) → a + n ≤ length doc → length (part doc a n) ≡ n
part_length doc a n h = simp (length-take, length-drop) (omega arith)
