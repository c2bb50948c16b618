-- `nearest::magnitude_bits` meets its contract: `whole-bits` at binary64 and 64 digits.
-- Assumes nothing.
use borrow.Author.Rules.{rules}
use mathlib.Core.Path.{◌≡◌, refl, sym, ap, ◌∙◌}
use mathlib.Core.Bool.{false}
use Prim.Native.Nat.{ℕ, ◌+◌, ◌-◌, ◌*◌, ◌%◌, ◌^◌, ◌<◌}
use native.Mathlib.Nat.{mod-eq_of_lt}
use native.Mathlib.Omega.{arith}
use lib.Dec.{lit≤}
use lib.Count.{count_leading_zeros, leading_le, leading_top}
use lib.Ieee.{binary64, round, to_bits}
use lib.Ieee.Nearest.{closest}
use Rattle.snbt_floats.proofs.Whole.{whole-bits, placed-lt, closest-le}
use Rattle.snbt_floats.proofs.nearest.magnitude_bits.Statement.{statement}
use Rattle.snbt_floats.proofs.nearest.magnitude_bits.Tie as tie

abbrev placed : ℕ → ℕ
placed m = m * 2 ^ count_leading_zeros 64 m % 2 ^ 64

abbrev bits : ℕ → ℕ
bits m = to_bits binary64 (round binary64 false m 1)

zero_bits : 0 ≡ bits 0
unfolding to_bits round
zero_bits = refl

-- q is the significand as the code rounds it
double : (m q : ℕ) → 0 < m → m < 2 ^ 64 → q ≡ closest (placed m) (2 ^ 11) → (1085 - count_leading_zeros 64 m) * 2 ^ 52 + q ≡ bits m
double m q P h e =
    ap (λ (x : ℕ). (1085 - count_leading_zeros 64 m) * 2 ^ 52 + x) e
    ∙ ap (λ (x : ℕ). (1085 - count_leading_zeros 64 m) * 2 ^ 52 + closest x (2 ^ 11)) (mod-eq_of_lt (placed-lt 64 m P h))
    ∙ sym (whole-bits binary64 11 m P h (lit≤ tt))

some : (m : ℕ) → (m ≡ 0 → ⊥) → 0 < m
some m h = omega arith

zeros-lt : (m : ℕ) → 0 < m → m < 2 ^ 64 → count_leading_zeros 64 m < 64
zeros-lt m P h = let t = leading_top 64 m P h in omega (arith, t.1)

returns : tie.Need-returns-then-m-eq0
returns c = zero_bits ∙ ap bits (sym c.if-m-eq0.true)

cast-placed : tie.Need-overflow_cast-placed
cast-placed c = omega (arith, leading_le 64 c.before.args.m)

shl-placed : tie.Need-overflow_shl-placed
shl-placed c = zeros-lt c.before.args.m (some _ c.if-m-eq0.false) c.before.ranges.m.fits

sub-exponent : tie.Need-overflow_sub-exponent
sub-exponent c = omega (arith, leading_le 64 c.before.args.m)

cast-exponent : tie.Need-overflow_cast-exponent
cast-exponent c = search rules

mul-result : tie.Need-overflow_mul-result
mul-result c = search rules

rounded_shift-requires : tie.Need-rounded_shift-requires
rounded_shift-requires c κs = search rules

add-result : tie.Need-overflow_add-result
add-result c = omega (arith, c.rounded_shift.ensures, closest-le (placed c.before.before.args.m) 2048)

returns-2 : tie.Need-returns
returns-2 c =
    let a = c.before.before in
    double a.args.m c.rounded_shift.result (some _ c.before.if-m-eq0.false) a.ranges.m.fits c.rounded_shift.ensures

pub magnitude_bits_spec : {M : Type 1} → statement M
magnitude_bits_spec =
    tie.close (tie.spec returns cast-placed shl-placed sub-exponent cast-exponent mul-result rounded_shift-requires add-result returns-2)
