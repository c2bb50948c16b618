-- What is claimed of the roundings of rule 13: each is IEEE 754's, as the property that snbt_form's specs/Nearest.antt tells, which has
-- no algorithm in it and leaves one answer. The proofs are in proofs/Rounding.antt, under the names given here.
-- Assumes nothing.
use Rattle.std.specs.Prelude.{ℕ, suc, ◌-◌, ◌*◌, ◌^◌, ◌<◌, ◌≡◌, Bool, true, false, ◌⊎◌, List, ℤ, pos, negsuc, nat_abs, Float}
use Rattle.std.specs.Float.{nan, inf, fin, Format, binary32, binary64}
use Rattle.std.specs.Float.Ieee.{up, down, of_bits, to_bits, of_int}
use Rattle.form.specs.Answer.{got}
use Rattle.snbt_form.specs.Values.{signed, nearest_to, scaled, to_single}
use Rattle.snbt_form.specs.Nearest.{Rounded}
use Rattle.snbt_form.specs.Numbers.{float, double, suffixed, number}

-- ---- the property

-- `one-rounding`: two floats that are both a / c rounded have the same bits. So the property leaves no choice, and no other rounding has it.
abbrev pub IsOneRounding : Type 0
IsOneRounding = (f : Format) (s : Bool) (a c : ℕ) (x y : Float) → 0 < c → Rounded f s a c x → Rounded f s a c y → to_bits f x ≡ to_bits f y

-- ---- whole numbers with f or d

-- A whole number is below zero.
abbrev pub below_zero : ℤ → Bool
below_zero (pos n) = false
below_zero (negsuc n) = true

-- `whole-rounded`: the double of a whole number with f or d is that number rounded, its sign and its magnitude, at every integer.
abbrev pub IsWholeRounded : Type 0
IsWholeRounded =
    (b : ℕ) (z : ℤ) (x : Float) → (suffixed b z ≡ float x) ⊎ (suffixed b z ≡ double x) → Rounded binary64 (below_zero z) (nat_abs z) 1 x

-- `whole-zero`: zero is +0, all bits zero, also where a minus stands before it, as in `-0d`.
abbrev pub IsWholeZero : Type 0
IsWholeZero = (s : Bool) → to_bits binary64 (of_int binary64 (signed s 0)) ≡ 0

-- ---- decimals

-- w × 10^p as a fraction: its numerator and its denominator.
abbrev pub numerator : ℕ → ℤ → ℕ
numerator w (pos k) = w * 10 ^ k
numerator w (negsuc k) = w

abbrev pub denominator : ℤ → ℕ
denominator (pos k) = 1
denominator (negsuc k) = 10 ^ suc k

-- `nearest-rounded`: what is called the nearest double to w × 10^p is that fraction rounded, with the sign, at every w and every p.
abbrev pub IsNearestRounded : Type 0
IsNearestRounded = (s : Bool) (w : ℕ) (p : ℤ) → Rounded binary64 s (numerator w p) (denominator p) (nearest_to s w p)

-- `decimal-rounded`: so is every value that a decimal is given, a signed zero where w is 0.
abbrev pub IsDecimalRounded : Type 0
IsDecimalRounded =
    (s : Bool) (w : ℕ) (p : ℤ) (place : ℕ) (x : Float) → scaled s w p place ≡ got x → Rounded binary64 s (numerator w p) (denominator p) x

-- ---- singles

-- `single-rounded`: the single of a finite double is that double's exact value, m × 2^e, rounded once more, to binary32.
abbrev pub IsSingleRounded : Type 0
IsSingleRounded = (s : Bool) (m : ℕ) (e : ℤ) → Rounded binary32 s (m * up e) (down e) (to_single (fin s m e))

-- `single-infinite`: an infinity stays one, with its sign.
abbrev pub IsSingleInfinite : Type 0
IsSingleInfinite = (s : Bool) → to_single (inf s) ≡ inf s

-- `never-nan`: and there is no other case, since no number of a text is a NaN.
abbrev pub IsNeverNan : Type 0
IsNeverNan = (l : List ℕ) (place : ℕ) (x : Float) → (number l place ≡ got (float x)) ⊎ (number l place ≡ got (double x)) → x ≡ nan → ⊥

-- ---- worked examples, by the bits of the answer

-- `whole-ties`: 2^53 + 1 lies halfway between two doubles and goes down to 2^53, whose significand is even; 2^53 + 3 goes up to 2^53 + 4.
abbrev pub AreWholeTies : Type 0
AreWholeTies =
    Rounded binary64 false 9007199254740993 1 (of_bits binary64 0x4340_0000_0000_0000)
    × Rounded binary64 false 9007199254740995 1 (of_bits binary64 0x4340_0000_0000_0002)

-- `tenth`: 0.1 is the marked record's double.
abbrev pub IsTenth : Type 0
IsTenth = Rounded binary64 false 1 10 (of_bits binary64 0x3FB9_9999_9999_999A)

-- `single-edges`: 2^128 - 2^103, half a unit above the largest single, is an infinity, and 1 less is the largest single; 2^-150, half the
-- smallest, is a zero of its sign, and 3 × 2^-150 is two of the smallest.
abbrev pub AreSingleEdges : Type 0
AreSingleEdges =
    Rounded binary32 false (2 ^ 128 - 2 ^ 103) 1 (inf false)
    × Rounded binary32 false (2 ^ 128 - 2 ^ 103 - 1) 1 (of_bits binary32 0x7F7F_FFFF)
    × Rounded binary32 true 1 (2 ^ 150) (of_bits binary32 0x8000_0000)
    × Rounded binary32 false 3 (2 ^ 150) (of_bits binary32 0x0000_0002)

-- `wrong-refused`: these are not it: at the first tie the odd one of the two; the double above that of 0.1; an infinity one power of two
-- too early.
abbrev pub AreWrongRefused : Type 0
AreWrongRefused =
    (Rounded binary64 false 9007199254740993 1 (of_bits binary64 0x4340_0000_0000_0001) → ⊥)
    × (Rounded binary64 false 1 10 (of_bits binary64 0x3FB9_9999_9999_999B) → ⊥)
    × (Rounded binary32 false (2 ^ 127) 1 (inf false) → ⊥)
