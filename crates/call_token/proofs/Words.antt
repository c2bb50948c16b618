-- What the bits of a whole number are, as the machine reads them back.
-- Assumes nothing.
use mathlib.Core.Path.{◌≡◌, ap}
use lib.IntN.{ℤ}
use mir.Syntax.{w64}
use mir.Val.{to_z, of_z, SFits}
use mir.ValLaws.{to_z-of_z}
use Rattle.form.specs.Numbers.{bits_of}

-- What the machine reads back of a whole number has its bits.
pub bits-kept : (z : ℤ) → SFits w64 z → bits_of 8 (to_z w64 (of_z w64 z)) ≡ bits_of 8 z
bits-kept z f = ap (bits_of 8) (to_z-of_z w64 z f)
