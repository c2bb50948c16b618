-- IEEE 754's roundTiesToEven told as a property, with no algorithm in it: which numbers a format holds, which of them is nearest to a
-- fraction a / c, and from where on there is an infinity. Sections are those of IEEE 754-2019.
-- Magnitudes are counted in units of the format's smallest number above zero, 2^-low, so that those of the format are natural numbers
-- and a / c is a * 2 ^ low f / c units. A sign is a Bool, true for minus. c is above 0 wherever these are used.
-- Assumes nothing.
use Rattle.std.specs.Prelude.{ℕ, suc, ◌+◌, ◌-◌, ◌*◌, ◌%◌, ◌^◌, ◌≤◌, ◌<◌, ◌≡◌, Bool, ◌⊎◌, Float}
use Rattle.std.specs.Float.{inf, Format}
use Rattle.std.specs.Float.Ieee.{prec, emax, low}
use Rattle.std.specs.Float.Ieee.Exact.{HasValue}

-- The finite magnitudes of a format (3.3): a significand of at most prec binary digits times a power of two, from the lowest power, here 0,
-- to the one at which a significand of prec digits has the exponent emax. Subnormals are those of fewer digits at the power 0.
pub record Holds (f : Format) (v : ℕ) : Type 0 where
  pub significand : ℕ
  pub power : ℕ
  pub digits : significand < 2 ^ prec f
  pub range : power + prec f ≤ low f + suc (emax f)
  pub is : v ≡ significand * 2 ^ power

-- How far two numbers are from each other.
abbrev pub apart : ℕ → ℕ → ℕ
apart a b = (a - b) + (b - a)

-- How far v units are from a / c, counted in c-ths of a unit.
abbrev pub distance : Format → ℕ → ℕ → ℕ → ℕ
distance f a c v = apart (v * c) (a * 2 ^ low f)

-- v is the number of the format nearest to a / c, and at a tie the one whose last digit is even (4.3.1). The digits are those of the
-- number's one significand that has all prec of them, or stands at the lowest power (3.4).
pub record Nearest (f : Format) (a c v : ℕ) : Type 0 where
  pub held : Holds f v
  pub full : (held.power ≡ 0) ⊎ (2 ^ (prec f - 1) ≤ held.significand)
  pub nearest : (w : ℕ) → Holds f w → distance f a c v ≤ distance f a c w
  pub even : (w : ℕ) → Holds f w → (w ≡ v → ⊥) → distance f a c w ≡ distance f a c v → held.significand % 2 ≡ 0

-- Where infinities begin (4.3.1): 2^emax × (2 − ½ × 2^(1−prec)), which is half a unit of the last digit above the largest number.
abbrev pub overflow : Format → ℕ
overflow f = 2 ^ suc (emax f) - 2 ^ (emax f - prec f)

-- The float x is a / c rounded, with the sign s: below the overflow it is finite with that sign and v / 2^low in size, v being the nearest
-- number; from there on it is the infinity of that sign.
pub data Rounded (f : Format) (s : Bool) (a c : ℕ) (x : Float) : Type 0 where
  finite : (v : ℕ) → a < overflow f * c → Nearest f a c v → HasValue x s v (2 ^ low f) → Rounded f s a c x
  infinite : overflow f * c ≤ a → x ≡ inf s → Rounded f s a c x
