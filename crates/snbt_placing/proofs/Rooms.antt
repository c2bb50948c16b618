-- Laws of answers and ranges: two answers that are the same, and an integer's range by its magnitude.
-- Assumes nothing.
use Prim.Native.Nat.{ℕ, ◌/◌}
use mathlib.Core.Bool.{Bool, true, false, not}
use mathlib.Core.Path.{◌≡◌, refl, sym, ap}
use borrow.Author.Tests.{ltb-true}
use lib.Dec.{ltb}
use lib.IntN.{ℤ, pos, negsuc}
use lib.Signed.{mag}
use Rattle.form.specs.Answer.{Out, got, no}
use Rattle.form.specs.Numbers.{values_in, FitsIn}
use Rattle.snbt_form.specs.Text.{in_range}

-- ---- answers

-- Two values, or two refusals, that are the same answer.
pub got_same : {A : Type 0} {a b : A} → got a ≡ got b → a ≡ b
got_same {A} {a} e = ap (λ (o : Out A). held o) e
  where
    held : Out A → A
    held (got x) = x
    held (no n p) = a

pub no_same : {A B : Type 0} {a b c d : ℕ} → ◌≡◌ {A = Out A} (no a b) (no c d) → ◌≡◌ {A = Out B} (no a b) (no c d)
no_same {A} {B} {a} {b} e = ap (λ (o : Out A). moved o) e
  where
    moved : Out A → Out B
    moved (got x) = no a b
    moved (no n p) = no n p

-- A test that was turned round.
pub not_left : (b : Bool) → not b ≡ false → b ≡ true
not_left true e = refl
not_left false e = sym e

pub not_taken : (b : Bool) → not b ≡ true → b ≡ false
not_taken true e = sym e
not_taken false e = refl

-- ---- range

-- An integer's range is asked of its magnitude.
pub range-mag : (w : ℕ) (v : ℤ) → ltb (mag v) (values_in w / 2) ≡ in_range w v
range-mag w (pos n) = refl
range-mag w (negsuc n) = refl

-- One in range fits.
pub range-fits : (w : ℕ) (v : ℤ) → in_range w v ≡ true → FitsIn w v
range-fits w (pos n) e = ltb-true n (values_in w / 2) e
range-fits w (negsuc n) e = ltb-true n (values_in w / 2) e
