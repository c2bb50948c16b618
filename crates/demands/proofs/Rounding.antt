-- The theorems on roundings, as specs/Rounding.antt states them.
-- Assumes nothing.
use Prim.Native.Nat.{ℕ, zero, suc, ◌+◌, ◌-◌, ◌*◌, ◌^◌, ◌<◌}
use mathlib.Core.Path.{◌≡◌, refl, sym, ap, ◌∙◌, subst}
use mathlib.Core.Bool.{Bool, true, false, ◌&&◌, cond}
use mathlib.Core.Logic.{◌⊎◌, inl, inr}
use native.Mathlib.Nat.{one-le-pow}
use native.Mathlib.Omega.{arith}
use lib.Dec.{T, ltb, leb, eqb, eqb→eq}
use lib.Pow.{pow_pos}
use lib.IntN.{ℤ, pos, negsuc, nat_abs}
use lib.Ieee.{Float, nan, inf, fin, Format, binary32, binary64, prec, emax, low, up, down, odd, units, round, of_bits, to_bits, of_int}
use lib.Ieee.Fits.{down_pos, round_is}
use Rattle.form.specs.Answer.{got, pick}
use Rattle.snbt_form.specs.Values.{scaled}
use Rattle.snbt_form.specs.Lexing.{among}
use Rattle.snbt_form.specs.Nearest.{Rounded}
use Rattle.snbt_form.specs.Numbers.{byte, short, int, long, float, double, is_letter, suffixed, number}
use Rattle.snbt_form.proofs.Gives.{Gives, of_number, gives-got, gives-no, gives-pick, gives-it}
use Rattle.snbt_form.proofs.Carried.{Carries, number-carries}
use Rattle.snbt_form.proofs.Nearest as nearest
use Rattle.demands.specs.Rounding.{IsOneRounding, below_zero, IsWholeRounded, IsWholeZero, numerator, denominator, IsNearestRounded, IsDecimalRounded}
use Rattle.demands.specs.Rounding.{IsSingleRounded, IsSingleInfinite, IsNeverNan, AreWholeTies, IsTenth, AreSingleEdges, AreWrongRefused}

pub one-rounding : IsOneRounding
one-rounding = nearest.one-rounding

-- ---- whole numbers

-- A double that a suffix gives is the number's, rounded.
suffixed-is : (b : ℕ) (z : ℤ) → Carries (λ x. x ≡ of_int binary64 z) (suffixed b z)
suffixed-is b z = go (is_letter 98 b) (is_letter 115 b) (is_letter 108 b) (is_letter 102 b) (is_letter 100 b)
  where
    go : (v w x y t : Bool)
        → Carries (λ x. x ≡ of_int binary64 z) (pick v (byte z) (pick w (short z) (pick x (long z) (pick y (float (of_int binary64 z)) (pick t (double (of_int binary64 z)) (int z))))))
    go true w x y t = tt
    go false true x y t = tt
    go false false true y t = tt
    go false false false true t = refl
    go false false false false true = refl
    go false false false false false = tt

whole : (z : ℤ) → Rounded binary64 (below_zero z) (nat_abs z) 1 (of_int binary64 z)
unfolding of_int
whole (pos n) = nearest.rounded binary64 false n 1 (omega arith)
whole (negsuc n) = nearest.rounded binary64 true (suc n) 1 (omega arith)

pub whole-rounded : IsWholeRounded
whole-rounded b z x h = subst (Rounded binary64 (below_zero z) (nat_abs z) 1) (sym (is h)) (whole z)
  where
    is : (suffixed b z ≡ float x) ⊎ (suffixed b z ≡ double x) → x ≡ of_int binary64 z
    is (inl e) = subst (Carries (λ x. x ≡ of_int binary64 z)) e (suffixed-is b z)
    is (inr e) = subst (Carries (λ x. x ≡ of_int binary64 z)) e (suffixed-is b z)

pub whole-zero : IsWholeZero
unfolding of_int round to_bits
whole-zero true = refl
whole-zero false = refl

-- ---- decimals

denominator-pos : (p : ℤ) → 0 < denominator p
denominator-pos (pos k) = omega arith
denominator-pos (negsuc k) = one-le-pow (suc k) 10 (omega arith)

pub nearest-rounded : IsNearestRounded
nearest-rounded s w (pos k) = nearest.rounded binary64 s (w * 10 ^ k) 1 (denominator-pos (pos k))
nearest-rounded s w (negsuc k) = nearest.rounded binary64 s w (10 ^ suc k) (denominator-pos (negsuc k))

-- A numerator of zero is zero.
numerator-zero : (p : ℤ) → numerator 0 p ≡ 0
numerator-zero (pos k) = omega arith
numerator-zero (negsuc k) = refl

pub decimal-rounded : IsDecimalRounded
unfolding among
decimal-rounded s w p place x e = gives-it e gives
  where
    Is : Float → Type 0
    Is = Rounded binary64 s (numerator w p) (denominator p)

    zero_is : w ≡ 0 → Is (fin s 0 (pos 0))
    zero_is z =
        let e : numerator w p ≡ 0 = ap (λ (n : ℕ). numerator n p) z ∙ numerator-zero p in
        subst (λ (a : ℕ). Rounded binary64 s a (denominator p) (fin s 0 (pos 0))) (sym e) (nearest.zero-rounded binary64 s (denominator p) (denominator-pos p))

    gives : Gives of_number Is (scaled s w p place)
    gives =
        gives-pick (eqb w 0) (λ t. gives-got (zero_is (eqb→eq w 0 (subst T (sym t) tt))))
        (λ _. gives-pick (leb w (2 ^ 53) && leb (nat_abs p) 22) (λ _. gives-got (nearest-rounded s w p)) (λ _. gives-no refl))

-- ---- singles

pub single-rounded : IsSingleRounded
single-rounded s m e = nearest.rounded binary32 s (m * up e) (down e) (down_pos e)

pub single-infinite : IsSingleInfinite
single-infinite s = refl

-- A float is no NaN.
abbrev Real : Float → Type 0
Real nan = ⊥
Real (inf s) = Unit {0}
Real (fin s m e) = Unit {0}

-- `round` makes none.
units-real : (f : Format) (s : Bool) (q k : ℕ) → Real (units f s q k)
unfolding units odd
units-real f s q k = go (ltb (q * 2 ^ k) (2 ^ (low f + suc (emax f)))) q
  where
    go : (b : Bool) (q : ℕ) → Real (cond b (odd (suc (prec f)) s q k (low f)) (inf s))
    go false q = tt
    go true zero = tt
    go true (suc q) = tt

round-real : (s : Bool) (a c : ℕ) → Real (round binary64 s a c)
round-real s a c = subst Real (sym (round_is binary64 s a c)) (units-real binary64 s _ _)

pub never-nan : IsNeverNan
never-nan l place x h n = subst Real n (is h)
  where
    given : Gives of_number (Carries Real) (number l place)
    given = number-carries Real round-real (λ s. tt) l place

    is : (number l place ≡ got (float x)) ⊎ (number l place ≡ got (double x)) → Real x
    is (inl e) = gives-it e given
    is (inr e) = gives-it e given

-- ---- worked examples

pub whole-ties : AreWholeTies
unfolding round of_bits
whole-ties = (nearest.rounded binary64 false 9007199254740993 1 (omega arith), nearest.rounded binary64 false 9007199254740995 1 (omega arith))

pub tenth : IsTenth
unfolding round of_bits
tenth = nearest.rounded binary64 false 1 10 (omega arith)

pub single-edges : AreSingleEdges
unfolding round of_bits
single-edges = (
  nearest.rounded binary32 false (2 ^ 128 - 2 ^ 103) 1 (omega arith),
  nearest.rounded binary32 false (2 ^ 128 - 2 ^ 103 - 1) 1 (omega arith),
  nearest.rounded binary32 true 1 (2 ^ 150) (pow_pos 150),
  nearest.rounded binary32 false 3 (2 ^ 150) (pow_pos 150),
)

-- Each has other bits than the one rounding.
pub wrong-refused : AreWrongRefused
unfolding round of_bits to_bits
wrong-refused = (
  λ h. omega (arith, one-rounding binary64 false 9007199254740993 1 _ _ (omega arith) whole-ties.0 h),
  λ h. omega (arith, one-rounding binary64 false 1 10 _ _ (omega arith) tenth h),
  λ h. omega (arith, one-rounding binary32 false (2 ^ 127) 1 _ _ (omega arith) (nearest.rounded binary32 false (2 ^ 127) 1 (omega arith)) h),
)
