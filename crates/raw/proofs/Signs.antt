-- Signed numbers in the machine: half of a width's values, the integer that bits stand for, and the bits of an integer.
-- Assumes nothing.
use Rattle.std.proofs.Common.{◌≡◌, ℕ, zero, suc, ◌+◌, ◌-◌, ◌*◌, ◌/◌, ◌%◌, ◌^◌, ◌<◌, ◌≤◌, true, false, T, ℤ, pos, negsuc, ◌-ℤ◌, nat_abs, sym, refl, ap, ◌∙◌, true≢false, mod-eq_of_lt, one-mul, pow-suc, sub-one, arith, pow-add, w64, Fits, to_z, of_z, le-ltb, le-leb}
use lib.Pow.{pow-lt}
use lib.Signed.{mag, le_z, non_neg}
use mir.ValLaws.{to_z-of_z}
use Rattle.form.specs.Numbers.{values_in, bits_of}

-- ---- half of the values

-- Eight bits to a byte.
eight : (w : ℕ) → 2 ^ (8 * w) ≡ 256 ^ w
eight zero = refl
eight (suc w) =
    let e : 8 * suc w ≡ 8 * w + 8 = omega arith in
    rw (e, pow-add 2 (8 * w) 8, eight w, pow-suc 256 w) refl

-- Half of the values, as a power of two.
half_pow : (w : ℕ) → 2 ^ (8 * suc w - 1) ≡ values_in (suc w) / 2
half_pow w =
    let e : 8 * suc w - 1 ≡ 8 * w + 7 = omega arith in
    rw (e, pow-add 2 (8 * w) 7, eight w, pow-suc 256 w) (omega arith)

-- The shift that the code makes.
pub half-shifted : (w : ℕ) → 0 < w → w ≤ 8 → 1 * 2 ^ (8 * w - 1) % 2 ^ 64 ≡ values_in w / 2
half-shifted zero h l = absurd (omega arith)
half-shifted (suc w) h l =
    rw (one-mul (2 ^ (8 * suc w - 1)), mod-eq_of_lt (pow-lt {i = 8 * suc w - 1} {j = 64} (omega arith))) (half_pow w)

-- ---- the integer that bits stand for

-- An integer in range is what the machine's bits of it stand for.
pub held : (v : ℤ) → mag v < 2 ^ 63 → to_z w64 (of_z w64 v) ≡ v
held v h = to_z-of_z w64 v (record { sfits = h })

-- ---- the bits of an integer

-- No natural number is below 0.
not-below : (n : ℕ) → le_z (pos 0) (pos n) ≡ false → ⊥
not-below n t = true≢false (sym (le-leb 0 n (omega arith)) ∙ t)

-- The absolute value of an integer in range fits 64 bits.
pub mag-fits : (v : ℤ) → mag v < 2 ^ 63 → Fits w64 (nat_abs v)
mag-fits (pos n) h = omega arith
mag-fits (negsuc n) h = omega arith

-- From 0 on the absolute value is the magnitude.
pub own : (v : ℤ) → le_z (pos 0) v ≡ true → nat_abs v ≡ mag v
own (pos n) t = refl
own (negsuc n) t = absurd (true≢false (sym t))

-- An integer from 0 on is its own bits.
pub bits-low : (v : ℤ) → le_z (pos 0) v ≡ true → T (non_neg v) × (nat_abs v ≡ bits_of 8 v)
bits-low (pos n) t = (tt, refl)
bits-low (negsuc n) t = absurd (true≢false (sym t))

-- -1 less a negative integer.
pub minus-below : (v : ℤ) → le_z (pos 0) v ≡ false → negsuc 0 -ℤ v ≡ pos (mag v)
minus-below (pos n) t = absurd (not-below n t)
minus-below (negsuc n) t = rw (le-ltb (suc n) 1 (omega arith)) (ap pos (sub-one (suc n)))

-- What the magnitude wraps back to zero with.
pub bits-wrapped : (r : ℕ) (v : ℤ) → le_z (pos 0) v ≡ false → r < 2 ^ 64 → mag v < 2 ^ 63 → (r + (mag v + 1)) % 2 ^ 64 ≡ 0 → r ≡ bits_of 8 v
bits-wrapped r (pos n) t h g e = absurd (not-below n t)
bits-wrapped r (negsuc n) t h g e = omega arith
