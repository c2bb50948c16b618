-- The bits of a whole number of w digits that is rounded to a format, by the number's leading zeros: moved up by them, its upper `prec` digits are kept and the d below
-- them dropped. One law for every format and width. Assumes nothing.
use mathlib.Core.Path.{◌≡◌, refl, sym, ap, ◌∙◌, subst}
use Prim.Native.Nat.{ℕ, suc, ◌+◌, ◌-◌, ◌*◌, ◌/◌, ◌%◌, ◌^◌, ◌≤◌, ◌<◌, compare, Ordering}
use native.Mathlib.Nat.{le_trans, le_of_eq, lt_of_le_of_lt, mul-le-mul_right, one-mul, div-one, mul_assoc, mul-pos, zero-lt-suc, mod-eq_of_lt, pow-succ', mul-le-mul_left}
use native.Mathlib.Omega.{arith}
use mathlib.Core.Bool.{false, not}
use lib.Dec.{T, is_le, compare_is_eq, eqb, leb→le, nleb→lt, eqb→eq, eqb_refl, lit≤}
use lib.Arith.{lt_of_le-ne}
use lib.Pow.{pow-add, pow_pos, pow_mono, pow-lt, shl_lt}
use lib.Count.{count_leading_zeros, leading_top}
use lib.Ieee.{Format, binary32, binary64, prec, emax, low, nearest, round, hid, to_bits}
use lib.Ieee.Nearest.{closest, closest_same, div_mono}
use lib.Ieee.Fits.{nearest-le}
use lib.Ieee.Order.{drop, kept}
use Rattle.snbt_floats.proofs.Rounded.{size_exact, rounded-to}

deep : (f : Format) → prec f ≤ low f
deep binary32 = lit≤ tt
deep binary64 = lit≤ tt

drops : (l p d z j : ℕ) → z + suc j ≡ p + d → suc (j + l) - p ≡ l + d - z
drops l p d z j e = omega arith

back : (l p d z j : ℕ) → p ≤ l → z + suc j ≡ p + d → l + d ≡ z + (l + d - z)
back l p d z j h e = omega arith

room : (l p d e z : ℕ) → p + d ≤ e → l + d - z + p ≤ l + suc e
room l p d e z h = omega arith

-- the number moved up still has w digits
pub placed-lt : (w m : ℕ) → 0 < m → m < 2 ^ w → m * 2 ^ count_leading_zeros w m < 2 ^ w
placed-lt w m P h =
    let t = leading_top w m P h in
    subst (λ (x : ℕ). m * 2 ^ count_leading_zeros w m < 2 ^ x) (flip (suc t.0) (count_leading_zeros w m) w t.1) (shl_lt (suc t.0) (count_leading_zeros w m) t.3)
  where
    flip : (a b c : ℕ) → b + a ≡ c → a + b ≡ c
    flip a b c e = omega arith

pub whole-bits : (f : Format) (d m : ℕ) → 0 < m → m < 2 ^ (prec f + d) → prec f + d ≤ emax f
    → to_bits f (round f false m 1) ≡ (low f + d - count_leading_zeros (prec f + d) m) * hid f + closest (m * 2 ^ count_leading_zeros (prec f + d) m) (2 ^ d)
whole-bits f d m P h g =
    let p = prec f in
    let l = low f in
    let z = count_leading_zeros (p + d) m in
    let t = leading_top (p + d) m P h in
    let j = t.0 in
    let n = m * 2 ^ l in
    let lo : 2 ^ (j + l) ≤ n / 1 = le_trans (le_of_eq (pow-add 2 j l)) (le_trans (mul-le-mul_right (2 ^ l) t.2) (le_of_eq (sym (div-one n)))) in
    let hi : n / 1 < 2 ^ suc (j + l) = lt_of_le_of_lt (le_of_eq (div-one n)) (subst (λ (x : ℕ). n < 2 ^ x) (suc-left j l) (shl_lt (suc j) l t.3)) in
    let k = l + d - z in
    let k-is : drop p n 1 ≡ k = ap (λ (x : ℕ). x - p) (size_exact (j + l) (n / 1) lo hi) ∙ drops l p d z j t.1 in
    let split : 2 ^ l * 2 ^ d ≡ 2 ^ z * 2 ^ k = sym (pow-add 2 l d) ∙ ap (λ (x : ℕ). 2 ^ x) (back l p d z j (deep f) t.1) ∙ pow-add 2 z k in
    let same : n * 2 ^ d ≡ m * 2 ^ z * (1 * 2 ^ k) =
    mul_assoc m (2 ^ l) (2 ^ d) ∙ ap (λ (x : ℕ). m * x) split ∙ sym (mul_assoc m (2 ^ z) (2 ^ k)) ∙ ap (λ (x : ℕ). m * 2 ^ z * x) (sym (one-mul (2 ^ k))) in
    let q-is : kept p n 1 ≡ closest (m * 2 ^ z) (2 ^ d) =
    ap (λ (x : ℕ). closest n (1 * 2 ^ x)) k-is ∙ closest_same n (1 * 2 ^ k) (m * 2 ^ z) (2 ^ d) (mul-pos (zero-lt-suc 0) (pow_pos k)) (pow_pos d) same in
    rounded-to f false m 1 k (closest (m * 2 ^ z) (2 ^ d)) k-is q-is (room l p d (emax f) z g) ∙ zero_left (k * hid f + closest (m * 2 ^ z) (2 ^ d))
  where
    suc-left : (a b : ℕ) → suc a + b ≡ suc (a + b)
    suc-left a b = omega arith

    zero_left : (x : ℕ) → 0 + x ≡ x
    zero_left x = omega arith

-- ---- the three ways to round, by the digits that are dropped
abbrev Cmp : Ordering → ℕ → ℕ → Type 0
Cmp Ordering.lt a b = a < b
Cmp Ordering.eq a b = a ≡ b
Cmp Ordering.gt a b = b < a

cmp : (a b : ℕ) → Cmp (compare a b) a b
cmp a b = go (compare a b) (leb→le a b) (nleb→lt a b) (eqb→eq a b) (λ (e : a ≡ b). subst (λ (x : ℕ). T (eqb a x)) e (eqb_refl a))
  where
    go : (o : Ordering) → (T (is_le o) → a ≤ b) → (T (not (is_le o)) → b < a) → (T (compare_is_eq o) → a ≡ b) → (a ≡ b → T (compare_is_eq o)) → Cmp o a b
    go Ordering.lt h k e n = lt_of_le-ne (h tt) n
    go Ordering.eq h k e n = e tt
    go Ordering.gt h k e n = k tt

pub rounds-down : (a b : ℕ) → a % b * 2 < b → closest a b ≡ a / b
rounds-down a b h = go (compare (a % b * 2) b) (cmp (a % b * 2) b)
  where
    no_eq : (x y : ℕ) → x < y → x ≡ y → ⊥
    no_eq x y h e = omega arith

    no-gt : (x y : ℕ) → x < y → y < x → ⊥
    no-gt x y h e = omega arith

    go : (o : Ordering) → Cmp o (a % b * 2) b → nearest (a / b) o ≡ a / b
    go Ordering.lt k = refl
    go Ordering.eq k = absurd (no_eq (a % b * 2) b h k)
    go Ordering.gt k = absurd (no-gt (a % b * 2) b h k)

pub rounds-even : (a b : ℕ) → a % b * 2 ≡ b → closest a b ≡ a / b + a / b % 2
rounds-even a b h = go (compare (a % b * 2) b) (cmp (a % b * 2) b)
  where
    no_lt : (x y : ℕ) → x ≡ y → x < y → ⊥
    no_lt x y h e = omega arith

    no-gt : (x y : ℕ) → x ≡ y → y < x → ⊥
    no-gt x y h e = omega arith

    go : (o : Ordering) → Cmp o (a % b * 2) b → nearest (a / b) o ≡ a / b + a / b % 2
    go Ordering.lt k = absurd (no_lt (a % b * 2) b h k)
    go Ordering.eq k = refl
    go Ordering.gt k = absurd (no-gt (a % b * 2) b h k)

pub rounds-up : (a b : ℕ) → b < a % b * 2 → closest a b ≡ a / b + 1
rounds-up a b h = go (compare (a % b * 2) b) (cmp (a % b * 2) b)
  where
    no_lt : (x y : ℕ) → y < x → x < y → ⊥
    no_lt x y h e = omega arith

    no_eq : (x y : ℕ) → y < x → x ≡ y → ⊥
    no_eq x y h e = omega arith

    one : (x : ℕ) → suc x ≡ x + 1
    one x = omega arith

    go : (o : Ordering) → Cmp o (a % b * 2) b → nearest (a / b) o ≡ a / b + 1
    go Ordering.lt k = absurd (no_lt (a % b * 2) b h k)
    go Ordering.eq k = absurd (no_eq (a % b * 2) b h k)
    go Ordering.gt k = one (a / b)

-- ---- a shift by d, as the machine has it
pub one_shl : (d : ℕ) → d < 64 → 1 * 2 ^ d % 2 ^ 64 ≡ 2 ^ d
one_shl d h = ap (λ (x : ℕ). x % 2 ^ 64) (one-mul (2 ^ d)) ∙ mod-eq_of_lt (pow-lt h)

pub halves : (d : ℕ) → 0 < d → 2 ^ d ≡ 2 * 2 ^ (d - 1)
halves d h = ap (λ (x : ℕ). 2 ^ x) (up-again d h) ∙ pow-succ' 2 (d - 1)
  where
    up-again : (n : ℕ) → 0 < n → n ≡ suc (n - 1)
    up-again n h = omega arith

-- what is left of n below 2 ^ 64 after a shift by one at least
pub kept_small : (n d : ℕ) → n < 2 ^ 64 → 0 < d → n / 2 ^ d < 2 ^ 63
kept_small n d h P = lt_of_le_of_lt (div_mono n (2 ^ d) n 2 (pow_pos d) (zero-lt-suc 1) (mul-le-mul_left n (pow_mono P))) (lower n h)
  where
    lower : (n : ℕ) → n < 2 ^ 64 → n / 2 < 2 ^ 63
    lower n h = omega arith

pub closest-le : (a b : ℕ) → closest a b ≤ suc (a / b)
closest-le a b = nearest-le (a / b) (compare (a % b * 2) b)
