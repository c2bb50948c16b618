-- `nearest::nearest_double` meets its contract: the bits are those of a rounded number, which is no NaN, and reading them gives the number back.
-- Assumes nothing.
use borrow.Author.Rules.{rules}
use mathlib.Core.Path.{◌≡◌, sym, ap, ◌∙◌, subst}
use mathlib.Core.Bool.{Bool, not}
use Prim.Native.Nat.{ℕ}
use lib.Dec.{T}
use lib.IntN.{ℤ}
use lib.Ieee.{binary64, to_bits, of_bits, of_int, is_nan, nan_bits}
use lib.Ieee.Fits.{of_int-fits}
use lib.Ieee.Bits.{of_bits-to_bits, nan_bits_is}
use Rattle.snbt_form.specs.Values.{signed}
use Rattle.snbt_floats.proofs.Rounded.{whole-no-nan}
use Rattle.snbt_floats.proofs.nearest.nearest_double.Statement.{statement}
use Rattle.snbt_floats.proofs.nearest.nearest_double.Tie as tie

read_back : (z : ℤ) (b : ℕ) → b ≡ to_bits binary64 (of_int binary64 z) → of_bits binary64 b ≡ of_int binary64 z
read_back z b e = ap (of_bits binary64) e ∙ of_bits-to_bits binary64 (of_int binary64 z) (of_int-fits binary64 z)

no-nan-bits : (z : ℤ) (b : ℕ) → b ≡ to_bits binary64 (of_int binary64 z) → T (not (nan_bits binary64 b))
no-nan-bits z b e = subst (λ (x : Bool). T (not x)) (sym (nan_bits_is binary64 b ∙ ap is_nan (read_back z b e))) (whole-no-nan binary64 z)

nearest_bits-requires : tie.Need-nearest_bits-requires
nearest_bits-requires c κs = search rules

float_from_bits-result : tie.Need-float_from_bits-result
float_from_bits-result c = no-nan-bits (signed c.before.args.negative c.before.args.magnitude) c.nearest_bits.result c.nearest_bits.ensures

returns : tie.Need-returns
returns c = read_back (signed c.before.args.negative c.before.args.magnitude) c.nearest_bits.result c.nearest_bits.ensures

pub nearest_double_spec : {M : Type 1} → statement M
nearest_double_spec = tie.close (tie.spec nearest_bits-requires float_from_bits-result returns)
