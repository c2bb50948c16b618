-- What a number of the text carries is no NaN, so that its bits can be asked for.
-- Assumes nothing.
use mathlib.Core.Path.{◌≡◌, sym}
use mathlib.Core.Bool.{Bool, not}
use mathlib.Core.List.{List}
use Prim.Native.Nat.{ℕ}
use lib.Dec.{T}
use lib.IntN.{pos}
use lib.Ieee.{Float, fin, binary64, is_nan}
use Rattle.std.specs.Prelude.{Ok}
use Rattle.form.specs.Answer.{got}
use Rattle.snbt_floats.proofs.Rounded.{rounded-no-nan}
use Rattle.snbt_form.specs.Numbers.{Number, byte, short, int, long, float, double, no_nan, number}
use Rattle.snbt_form.proofs.Gives.{gives-it}
use Rattle.snbt_form.proofs.Carried.{Carries, number-carries}
use Rattle.snbt_numbers.specs.Answers.{number_out, quiet}
use Rattle.snbt_numbers.specs.declared.Number.{Number as Answer}
use Rattle.snbt_numbers.specs.declared.Number.TheVariants.{Byte, Short, Int, Long, Float as Float64, Double as Double64}

-- A double that is no NaN.
abbrev real : Float → Type 0
real x = T (not (is_nan x))

-- A number whose double is real carries no NaN.
carries-real : (n : Number) → Carries real n → no_nan n
carries-real (byte z) h = tt
carries-real (short z) h = tt
carries-real (int z) h = tt
carries-real (long z) h = tt
carries-real (float x) h = h
carries-real (double x) h = h

zero-real : (s : Bool) → real (fin s 0 (pos 0))
unfolding is_nan
zero-real s = tt

-- A number that was accepted carries no NaN: a rounding is none, nor is a zero.
pub number-no-nan : (l : List ℕ) (place : ℕ) (n : Number) → number l place ≡ got n → no_nan n
number-no-nan l place n e = carries-real n (gives-it e (number-carries real (rounded-no-nan binary64) zero-real l place))

-- So does the code's number that meets the definition.
pub number-quiet : (r : Answer) (l : List ℕ) (place : ℕ) → number_out (Ok r) ≡ number l place → quiet r
number-quiet (Byte z) l place e = tt
number-quiet (Short z) l place e = tt
number-quiet (Int z) l place e = tt
number-quiet (Long z) l place e = tt
number-quiet (Float64 x) l place e = number-no-nan l place (float x) (sym e)
number-quiet (Double64 x) l place e = number-no-nan l place (double x) (sym e)
