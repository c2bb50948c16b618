-- A power of ten less the digits behind the point, and that counting digits and exponents only up to the cap changes no answer.
-- Assumes nothing.
use mathlib.Core.Path.{◌≡◌, refl, sym, ap, ◌∙◌, subst}
use mathlib.Core.Logic.{◌⊎◌, inl, inr}
use mathlib.Core.Bool.{Bool, true, false, cond}
use Prim.Native.Nat.{ℕ, zero, suc, ◌+◌, ◌-◌, ◌^◌, ◌≤◌, ◌<◌, min}
use native.Mathlib.Omega.{arith}
use borrow.Author.Tests.{ne_eqb, lt-ltb, le-ltb, lt-leb}
use lib.Dec.{leb, eqb}
use lib.IntN.{ℤ, pos, negsuc, neg_ℤ, nat_abs, ◌-ℤ◌, sub_ℕ}
use lib.Ieee.{fin}
use Rattle.form.specs.Answer.{got, no, pick, decimal_beyond}
use Rattle.form.proofs.Picks.{lt-or, and-false}
use Rattle.snbt_form.specs.Values.{signed, scaled}
use Rattle.snbt_numbers.specs.Rows.{cap}

-- ---- a signed number less a natural

neg-suc : (m k : ℕ) → m ≡ suc k → neg_ℤ (pos m) ≡ negsuc k
neg-suc m k e = ap (λ (x : ℕ). neg_ℤ (pos x)) e

under : (a b : ℕ) → a < b → sub_ℕ a b ≡ negsuc (b - suc a)
under a b h = ap (λ (t : Bool). cond t (negsuc (b - suc a)) (pos (a - b))) (lt-ltb a b h)

pub over : (a b : ℕ) → b ≤ a → sub_ℕ a b ≡ pos (a - b)
over a b h = ap (λ (t : Bool). cond t (negsuc (b - suc a)) (pos (a - b))) (le-ltb a b h)

pub down-sum : (x n : ℕ) → signed true (x + n) ≡ signed true x -ℤ pos n
down-sum zero zero = refl
down-sum zero (suc k) = let e : suc k - 1 ≡ k = omega arith in neg-suc (0 + suc k) k (omega arith) ∙ sym (under 0 (suc k) (omega arith) ∙ ap negsuc e)
down-sum (suc j) zero = let e : suc j - 1 ≡ j = omega arith in neg-suc (suc j + 0) j (omega arith) ∙ sym (under 0 (suc j) (omega arith) ∙ ap negsuc e)
down-sum (suc j) (suc k) = neg-suc (suc j + suc k) (suc (j + k)) (omega arith)

pub up_rest : (x n : ℕ) → n ≤ x → signed false (x - n) ≡ signed false x -ℤ pos n
up_rest x zero h = let e : x - 0 ≡ x + 0 = omega arith in ap pos e
up_rest x (suc k) h = sym (over x (suc k) h)

pub down-rest : (x n : ℕ) → x < n → signed true (n - x) ≡ signed false x -ℤ pos n
down-rest x zero h = absurd (omega arith)
down-rest x (suc k) h = neg-suc (suc k - x) (suc k - suc x) (omega arith) ∙ sym (under x (suc k) h)

-- ---- beyond the powers that are answered

-- a power past 22: refused, but for zero
far : (s : Bool) (w : ℕ) (p : ℤ) (place : ℕ) → 22 < nat_abs p → scaled s w p place ≡ pick (eqb w 0) (got (fin s 0 (pos 0))) (no decimal_beyond place)
far s w p place h = rw (lt-leb (nat_abs p) 22 h, and-false (leb w (2 ^ 53))) refl

-- digits past 2^53: refused
many : (s : Bool) (w : ℕ) (p : ℤ) (place : ℕ) → 2 ^ 53 < w → scaled s w p place ≡ no decimal_beyond place
many s w p place h = simp (ne_eqb w 0 (λ e. omega arith), lt-leb w (2 ^ 53) h)

big : (m : ℕ) → 22 < m → 22 < nat_abs (signed true m)
big zero h = h
big (suc m) h = h

-- an exponent below -22 stays there with digits taken off
down-far : (e n : ℕ) → 22 < e → 22 < nat_abs (signed true e -ℤ pos n)
down-far e n h = subst (λ (z : ℤ). 22 < nat_abs z) (down-sum e n) (big (e + n) (omega arith))

pub far-down : (s : Bool) (w e n place : ℕ) → 22 < e → scaled s w (signed true e) place ≡ scaled s w (signed true e -ℤ pos n) place
far-down s w e n place h = far s w (signed true e) place (big e h) ∙ sym (far s w (signed true e -ℤ pos n) place (down-far e n h))

-- ---- counting up to the cap

pub digits-capped : (s : Bool) (w : ℕ) (p : ℤ) (place : ℕ) → scaled s (min w cap) p place ≡ scaled s w p place
digits-capped s w p place = go (lt-or cap w)
  where
    go : (cap < w) ⊎ (w ≤ cap) → scaled s (min w cap) p place ≡ scaled s w p place
    go (inl h) = many s (min w cap) p place (omega arith) ∙ sym (many s w p place (omega arith))
    go (inr h) = let e : min w cap ≡ w = omega arith in rw e refl

-- an exponent from the cap on is past 22 with fewer than 2^63 digits taken off
size-minus : (d : Bool) (e n : ℕ) → cap ≤ e → n < 2 ^ 63 → 22 < nat_abs (signed d e -ℤ pos n)
size-minus true e n h g = down-far e n (omega arith)
size-minus false e n h g = let rest : 22 < e - n = omega arith in subst (λ (z : ℤ). 22 < nat_abs z) (up_rest e n (omega arith)) rest

pub exponent-capped : (s : Bool) (w : ℕ) (d : Bool) (e n place : ℕ) → n < 2 ^ 63 → scaled s w (signed d (min e cap) -ℤ pos n) place ≡ scaled s w (signed d e -ℤ pos n) place
exponent-capped s w d e n place g = go (lt-or cap e)
  where
    go : (cap < e) ⊎ (e ≤ cap) → scaled s w (signed d (min e cap) -ℤ pos n) place ≡ scaled s w (signed d e -ℤ pos n) place
    go (inl h) =
        far s w (signed d (min e cap) -ℤ pos n) place (size-minus d (min e cap) n (omega arith) g)
        ∙ sym (far s w (signed d e -ℤ pos n) place (size-minus d e n (omega arith) g))
    go (inr h) = let q : min e cap ≡ e = omega arith in rw q refl
