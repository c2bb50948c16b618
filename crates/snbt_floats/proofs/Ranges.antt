-- A double's bits as a single's, in the four ranges of the exponent's field.
-- Assumes nothing.
use mathlib.Core.Path.{◌≡◌, refl, sym, ap, ◌∙◌, subst}
use mathlib.Core.Logic.{◌⊎◌, inl, inr}
use Prim.Native.Nat.{ℕ, ◌+◌, ◌-◌, ◌*◌, ◌/◌, ◌%◌, ◌^◌, ◌≤◌, ◌<◌}
use native.Mathlib.Nat.{le_trans, le_of_eq, lt_of_lt_of_le, eq-or-lt_of_le, eq-zero-or-pos, zero-add, mul-one, mod-le, mod-lt, div-eq_of_lt, mul-le-mul_right, mul-le-mul_left}
use native.Mathlib.Omega.{arith}
use mathlib.Core.Bool.{Bool, cond}
use lib.Dec.{lit≤, lit<}
use lib.Pow.{pow-add, pow_pos, pow_mono, shl_lt}
use lib.Ieee.{Float, binary32, binary64, round, of_fields, of_bits, to_bits}
use lib.Ieee.Exact.{HasValue}
use lib.Ieee.Nearest.{closest}
use lib.Ieee.Order.{drop, kept}
use Rattle.snbt_floats.proofs.Rounded.{rounded-to, overflown-bits, kept-lead}
use Rattle.snbt_floats.proofs.Whole.{rounds-down}
use Rattle.snbt_form.specs.Values.{to_single}
use Rattle.snbt_floats.proofs.Narrow.{small-drop, small-kept, full-drop, full-kept, closest-shift}
use Rattle.snbt_floats.proofs.Fields.{fields, low_value, mid-value, single-value}

-- the bits of a / 2 ^ 1074 as a single
abbrev single : Bool → ℕ → ℕ
single s a = to_bits binary32 (round binary32 s a (2 ^ 1074))

-- ---- by size

tiny : (s : Bool) (a : ℕ) → a < 2 ^ 924 → single s a ≡ cond s (2 ^ 31) 0 + 0
tiny s a h =
    rounded-to binary32 s a (2 ^ 1074) 0 0 (small-drop binary32 925 a (lt_of_lt_of_le h (lit≤ tt)))
    (small-kept binary32 925 a (lt_of_lt_of_le h (lit≤ tt))
    ∙ rounds-down a (2 ^ 925) (lower a (a % 2 ^ 925) (2 ^ 924) (2 ^ 925) h (mod-le a (2 ^ 925)) refl)
    ∙ div-eq_of_lt (lt_of_lt_of_le h (lit≤ tt)))
    (lit≤ tt)
  where
    lower : (a r x y : ℕ) → a < x → r ≤ a → y ≡ 2 * x → r * 2 < y
    lower a r x y h g e = omega arith

under : (s : Bool) (n j : ℕ) → n < 2 ^ 53 → j ≤ 895 → single s (n * 2 ^ j) ≡ cond s (2 ^ 31) 0 + closest n (2 ^ (925 - j))
under s n j h g =
    let a_lt : n * 2 ^ j < 2 ^ 949 = lt_of_lt_of_le (shl_lt 53 j h) (pow_mono (fits j g)) in
    rounded-to binary32 s (n * 2 ^ j) (2 ^ 1074) 0 (closest n (2 ^ (925 - j))) (small-drop binary32 925 (n * 2 ^ j) a_lt)
    (small-kept binary32 925 (n * 2 ^ j) a_lt ∙ closest-shift n j 925 (le_trans g (lit≤ tt)))
    (lit≤ tt)
    ∙ ap (λ (x : ℕ). cond s (2 ^ 31) 0 + x) (zero-add (closest n (2 ^ (925 - j))))
  where
    fits : (j : ℕ) → j ≤ 895 → 53 + j ≤ 949
    fits j g = omega arith

normal : (s : Bool) (n j k : ℕ) → 2 ^ 52 ≤ n → n < 2 ^ 53 → k + 24 + 925 ≡ 53 + j → k + 24 ≤ 277 → single s (n * 2 ^ j) ≡ cond s (2 ^ 31) 0 + (k * 2 ^ 23 + closest n (2 ^ 29))
normal s n j k lo hi e g =
    rounded-to binary32 s (n * 2 ^ j) (2 ^ 1074) k (closest n (2 ^ 29)) (full-drop binary32 925 52 n j k (lit< tt) lo hi e) (full-kept binary32 925 52 n j k 29 (lit< tt) lo hi e refl) g

huge : (s : Bool) (n j k : ℕ) → 2 ^ 52 ≤ n → n < 2 ^ 53 → k + 24 + 925 ≡ 53 + j → 254 ≤ k → single s (n * 2 ^ j) ≡ cond s (2 ^ 31) 0 + 0x7f80_0000
huge s n j k lo hi e g =
    let d : drop 24 (n * 2 ^ j * 2 ^ 149) (2 ^ 1074) ≡ k = full-drop binary32 925 52 n j k (lit< tt) lo hi e in
    let q = kept 24 (n * 2 ^ j * 2 ^ 149) (2 ^ 1074) in
    let lead : 2 ^ 23 ≤ q = kept-lead 24 (n * 2 ^ j * 2 ^ 149) (2 ^ 1074) (lit< tt) (subst (λ (x : ℕ). 0 < x) (sym d) (lt_of_lt_of_le (lit< tt) g)) in
    overflown-bits binary32 s (n * 2 ^ j) (2 ^ 1074)
    (subst (λ (x : ℕ). 2 ^ 277 ≤ q * 2 ^ x) (sym d)
    (le_trans (le_of_eq (pow-add 2 23 254)) (le_trans (mul-le-mul_left (2 ^ 23) (pow_mono g)) (mul-le-mul_right (2 ^ k) lead))))

-- ---- by the field. F and D are the exponent's field and the digits'

abbrev F : ℕ → ℕ
F b = b / 2 ^ 52

abbrev D : ℕ → ℕ
D b = b % 2 ^ 52

abbrev answer : Bool → ℕ → ℕ
answer s b = to_bits binary32 (to_single (of_bits binary64 (cond s (2 ^ 63) 0 + b)))

from_fields : (s : Bool) (b a : ℕ) → b < 2 ^ 63 → HasValue (of_fields binary64 s (F b) (D b)) s a (2 ^ 1074) → answer s b ≡ single s a
from_fields s b a h v =
    ap (λ (x : Float). to_bits binary32 (to_single x)) (fields binary64 s b h)
    ∙ ap (to_bits binary32) (single-value (of_fields binary64 s (F b) (D b)) s a (2 ^ 1074) (pow_pos 1074) v)

digits_lt : (b : ℕ) → D b < 2 ^ 52
digits_lt b = mod-lt b (pow_pos 52)

at_mid : (s : Bool) (b : ℕ) → b < 2 ^ 63 → 0 < F b → F b < 2047 → answer s b ≡ single s ((2 ^ 52 + D b) * 2 ^ (F b - 1))
at_mid s b h P t = from_fields s b ((2 ^ 52 + D b) * 2 ^ (F b - 1)) h (mid-value binary64 s (F b) (D b) P t)

at_low : (s : Bool) (b : ℕ) → b < 2 ^ 63 → F b ≡ 0 → answer s b ≡ single s (D b * 2 ^ 0)
at_low s b h z = from_fields s b (D b * 2 ^ 0) h (subst (λ (x : ℕ). HasValue (of_fields binary64 s x (D b)) s (D b * 2 ^ 0) (2 ^ 1074)) (sym z) (low_value binary64 s (D b)))

infinite : (s : Bool) → to_bits binary32 (to_single (of_fields binary64 s 2047 0)) ≡ cond s (2 ^ 31) 0 + 0x7f80_0000
unfolding to_bits of_fields
infinite s = refl

at_top : (s : Bool) (b : ℕ) → b < 2 ^ 63 → F b ≡ 2047 → D b ≡ 0 → answer s b ≡ cond s (2 ^ 31) 0 + 0x7f80_0000
at_top s b h e z =
    ap (λ (x : Float). to_bits binary32 (to_single x)) (fields binary64 s b h)
    ∙ ap (λ (x : ℕ). to_bits binary32 (to_single (of_fields binary64 s x (D b)))) e
    ∙ ap (λ (x : ℕ). to_bits binary32 (to_single (of_fields binary64 s 2047 x))) z
    ∙ infinite s

lead : (d : ℕ) → 2 ^ 52 ≤ 2 ^ 52 + d
lead d = omega arith

lead-lt : (d : ℕ) → d < 2 ^ 52 → 2 ^ 52 + d < 2 ^ 53
lead-lt d h = omega arith

-- ---- the four answers of the code

pub too_large : (s : Bool) (b : ℕ) → b ≤ 0x7ff0_0000_0000_0000 → 1151 ≤ F b → answer s b ≡ cond s (2 ^ 31) 0 + 0x7f80_0000
too_large s b h g = go (top-or-below b h)
  where
    top-or-below : (b : ℕ) → b ≤ 0x7ff0_0000_0000_0000 → ((F b ≡ 2047) × (D b ≡ 0)) ⊎ (F b < 2047)
    top-or-below b h = split (eq-or-lt_of_le (up_to b h))
      where
        up_to : (b : ℕ) → b ≤ 0x7ff0_0000_0000_0000 → F b ≤ 2047
        up_to b h = omega arith

        no-digits : (b : ℕ) → b ≤ 0x7ff0_0000_0000_0000 → F b ≡ 2047 → D b ≡ 0
        no-digits b h e = omega arith

        split : (F b ≡ 2047) ⊎ (F b < 2047) → ((F b ≡ 2047) × (D b ≡ 0)) ⊎ (F b < 2047)
        split (inl e) = inl (e, no-digits b h e)
        split (inr l) = inr l

    small : (b : ℕ) → b ≤ 0x7ff0_0000_0000_0000 → b < 2 ^ 63
    small b h = omega arith

    some : (x : ℕ) → 1151 ≤ x → 0 < x
    some x h = omega arith

    places : (x : ℕ) → 1151 ≤ x → x - 897 + 24 + 925 ≡ 53 + (x - 1)
    places x h = omega arith

    many : (x : ℕ) → 1151 ≤ x → 254 ≤ x - 897
    many x h = omega arith

    go : ((F b ≡ 2047) × (D b ≡ 0)) ⊎ (F b < 2047) → answer s b ≡ cond s (2 ^ 31) 0 + 0x7f80_0000
    go (inl e) = at_top s b (small b h) e.0 e.1
    go (inr l) =
        at_mid s b (small b h) (some (F b) g) l
        ∙ huge s (2 ^ 52 + D b) (F b - 1) (F b - 897) (lead (D b)) (lead-lt (D b) (digits_lt b)) (places (F b) g) (many (F b) g)

pub too_small : (s : Bool) (b : ℕ) → F b < 873 → answer s b ≡ cond s (2 ^ 31) 0 + 0
too_small s b g = go (eq-zero-or-pos (F b))
  where
    below-sign : (b : ℕ) → F b < 873 → b < 2 ^ 63
    below-sign b g = omega arith

    few : (x : ℕ) → x < 873 → 53 + (x - 1) ≤ 924
    few x g = omega arith

    go : (F b ≡ 0) ⊎ (0 < F b) → answer s b ≡ cond s (2 ^ 31) 0 + 0
    go (inl z) = at_low s b (below-sign b g) z ∙ tiny s (D b * 2 ^ 0) (subst (λ (x : ℕ). x < 2 ^ 924) (sym (mul-one (D b))) (lt_of_lt_of_le (digits_lt b) (lit≤ tt)))
    go (inr P) =
        at_mid s b (below-sign b g) P (lt_of_lt_of_le g (lit≤ tt))
        ∙ tiny s ((2 ^ 52 + D b) * 2 ^ (F b - 1)) (lt_of_lt_of_le (shl_lt 53 (F b - 1) (lead-lt (D b) (digits_lt b))) (pow_mono (few (F b) g)))

pub below-normal : (s : Bool) (b : ℕ) → 873 ≤ F b → F b < 897 → answer s b ≡ cond s (2 ^ 31) 0 + closest (2 ^ 52 + D b) (2 ^ (926 - F b))
below-normal s b l g =
    at_mid s b (below-sign b g) (some (F b) l) (lt_of_lt_of_le g (lit≤ tt))
    ∙ under s (2 ^ 52 + D b) (F b - 1) (lead-lt (D b) (digits_lt b)) (few (F b) g)
    ∙ ap (λ (x : ℕ). cond s (2 ^ 31) 0 + closest (2 ^ 52 + D b) (2 ^ x)) (places (F b) l)
  where
    below-sign : (b : ℕ) → F b < 897 → b < 2 ^ 63
    below-sign b g = omega arith

    some : (x : ℕ) → 873 ≤ x → 0 < x
    some x h = omega arith

    few : (x : ℕ) → x < 897 → x - 1 ≤ 895
    few x h = omega arith

    places : (x : ℕ) → 873 ≤ x → 925 - (x - 1) ≡ 926 - x
    places x h = omega arith

pub in-range : (s : Bool) (b : ℕ) → 897 ≤ F b → F b < 1151 → answer s b ≡ cond s (2 ^ 31) 0 + ((F b - 897) * 2 ^ 23 + closest (2 ^ 52 + D b) (2 ^ 29))
in-range s b l g =
    at_mid s b (below-sign b g) (some (F b) l) (lt_of_lt_of_le g (lit≤ tt))
    ∙ normal s (2 ^ 52 + D b) (F b - 1) (F b - 897) (lead (D b)) (lead-lt (D b) (digits_lt b)) (places (F b) l) (few (F b) g)
  where
    below-sign : (b : ℕ) → F b < 1151 → b < 2 ^ 63
    below-sign b g = omega arith

    some : (x : ℕ) → 897 ≤ x → 0 < x
    some x h = omega arith

    places : (x : ℕ) → 897 ≤ x → x - 897 + 24 + 925 ≡ 53 + (x - 1)
    places x h = omega arith

    few : (x : ℕ) → x < 1151 → x - 897 + 24 ≤ 277
    few x h = omega arith
