-- `single::f32_bits` meets its contract: the sign's bit is taken off and put back.
-- Assumes nothing.
use borrow.Author.Rules.{rules}
use mathlib.Core.Path.{◌≡◌, sym, ap, ◌∙◌, subst}
use mathlib.Core.Bool.{Bool, true, false, not}
use Prim.Native.Nat.{ℕ, ◌+◌, ◌*◌, ◌%◌, ◌^◌, ◌<◌, ◌≤◌}
use native.Mathlib.Omega.{arith}
use lib.Dec.{T, nltb→le}
use lib.Ieee.{Float, nan, inf, fin, Format, binary32, binary64, up, down, fits, is_nan, hid, ones, top, to_bits, of_bits}
use lib.Ieee.Fits.{nan-fits, inf-fits, round-fits}
use lib.Ieee.Bits.{of_bits-to_bits, to_bits-lt, nan_bits_is, nan_bits_above}
use denote.Floats.{passes}
use Rattle.snbt_form.specs.Values.{to_single}
use Rattle.snbt_floats.proofs.single.f32_bits.Statement.{statement}
use Rattle.snbt_floats.proofs.single.f32_bits.Tie as tie

-- of a value that is no NaN the bits without the sign are an infinity's at most
no-nan-bits : (f : Format) (x : Float) → T (fits f x) → T (not (is_nan x)) → to_bits f x % top f ≤ ones f * hid f
no-nan-bits f x h n =
    nltb→le (ones f * hid f) (to_bits f x % top f)
    (subst (λ (b : Bool). T (not b)) (ap is_nan (sym (of_bits-to_bits f x h)) ∙ sym (nan_bits_is f (to_bits f x)) ∙ nan_bits_above f (to_bits f x)) n)

single-fits : (x : Float) → T (fits binary32 (to_single x))
single-fits nan = nan-fits binary32
single-fits (inf s) = inf-fits binary32 s
single-fits (fin s m e) = round-fits binary32 s (m * up e) (down e)

-- the double that a sign and the rest of its bits stand for
again : (x : Float) (a : ℕ) → T (fits binary64 x) → a ≡ to_bits binary64 x → to_bits binary32 (to_single (of_bits binary64 a)) ≡ to_bits binary32 (to_single x)
again x a h e = ap (λ (y : Float). to_bits binary32 (to_single y)) (ap (of_bits binary64) e ∙ of_bits-to_bits binary64 x h)

plus : (b : ℕ) → b < 2 ^ 63 → 0 + b % 2 ^ 63 ≡ b
plus b h = omega arith

minus : (b : ℕ) → 2 ^ 63 ≤ b → b < 2 ^ 64 → 2 ^ 63 + b % 2 ^ 63 ≡ b
minus b g h = omega arith

known : (c : tie.Start) → T (fits binary64 c.args.x)
known c = passes (fits binary64 c.args.x) c.well_formed.0.1

float_to_bits-b : tie.Need-float_to_bits-b
float_to_bits-b c = search rules

single_magnitude-requires : tie.Need-single_magnitude-r-requires
single_magnitude-requires c κs = no-nan-bits binary64 c.args.x (known c) c.requires

zero_left : (x y : ℕ) → 0 + x ≡ y → x ≡ y
zero_left x y e = omega arith

returns : tie.Need-returns-then-b-lt9223372036854775808
returns c =
    let a = c.before.before in
    zero_left c.before.single_magnitude-r.result (to_bits binary32 (to_single a.args.x))
    (c.before.single_magnitude-r.ensures false ∙ again a.args.x _ (known a) (plus (to_bits binary64 a.args.x) c.if-b-lt9223372036854775808.true))

turned : (x y : ℕ) → 2 ^ 31 + x ≡ y → x + 2 ^ 31 ≡ y
turned x y e = omega arith

negative : (c : tie.Else-b-lt9223372036854775808) → c.before.single_magnitude-r.result + 2 ^ 31 ≡ to_bits binary32 (to_single c.before.before.args.x)
negative c =
    let a = c.before.before in
    turned c.before.single_magnitude-r.result (to_bits binary32 (to_single a.args.x))
    (c.before.single_magnitude-r.ensures true
    ∙ again a.args.x _ (known a) (minus (to_bits binary64 a.args.x) c.if-b-lt9223372036854775808.false (to_bits-lt binary64 a.args.x (known a))))

add-result : tie.Need-overflow_add-result
add-result c =
    let x = c.before.before.args.x in
    omega (arith, negative c, to_bits-lt binary32 (to_single x) (single-fits x))

returns-2 : tie.Need-returns
returns-2 c = negative c

pub f32_bits_spec : {M : Type 1} → statement M
f32_bits_spec = tie.close (tie.spec float_to_bits-b single_magnitude-requires returns add-result returns-2)
