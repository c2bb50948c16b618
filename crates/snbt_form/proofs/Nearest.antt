-- The float library's `round` is roundTiesToEven as specs/Nearest.antt tells it, and what is told there leaves one answer.
-- Assumes nothing.
use mathlib.Core.Path.{◌≡◌, refl, sym, ap, ◌∙◌, subst}
use mathlib.Core.Logic.{◌⊎◌, inl, inr}
use Prim.Native.Nat.{ℕ, zero, suc, ◌+◌, ◌-◌, ◌*◌, ◌/◌, ◌%◌, ◌^◌, ◌≤◌, ◌<◌, compare, Ordering}
use native.Mathlib.Nat.{le_trans, le_of_eq, le_of_lt, lt_of_lt_of_le, lt_of_le_of_lt, eq-or-lt_of_le, mul_comm, mul_assoc, mul_right_comm, mul-pos, suc-mul, add-mul, mod-lt, div-add-mod'}
use native.Mathlib.Nat.{mul-le-mul, mul-le-mul_right, le_of_mul-le-mul_right, mul-lt-mul_of_pos_right, lt_of_mul-lt-mul_right, le-div_iff_mul-le, div-div-eq-div-mul, mul-div_cancel, pow-suc}
use native.Mathlib.Nat.{zero-mul}
use native.Mathlib.Decide.{dec_lt}
use native.Mathlib.Omega.{arith}
use mathlib.Core.Bool.{Bool, true, false, not, cond}
use lib.Dec.{T, ltb, is_le, compare_is_eq, eqb, leb→le, nleb→lt, eqb→eq, eqb_refl, ltb→lt, lit≤}
use lib.IntN.{pos}
use lib.Arith.{lt_of_le-ne}
use lib.Pow.{pow-add, pow_pos, pow_mono, shl_lt}
use lib.Ieee.{Float, nan, inf, fin, Format, binary32, binary64, prec, emax, low, up, down, size, nearest, odd, units, round, hid, top, to_bits}
use lib.Ieee.Digits.{size-lt, size_reaches}
use lib.Ieee.Fits.{kept-lt, nearest-le, round_is, down_pos, two}
use lib.Ieee.Exact.{HasValue, units_val}
use lib.Ieee.Nearest.{closest, nearest-ge}
use lib.Ieee.Order.{drop, kept}
use lib.Ieee.Scale.{grid}
use Rattle.snbt_form.specs.Nearest.{Holds, apart, distance, Nearest, overflow, Rounded, finite, infinite}

-- ---- what `compare` says

abbrev Cmp : Ordering → ℕ → ℕ → Type 0
Cmp Ordering.lt a b = a < b
Cmp Ordering.eq a b = a ≡ b
Cmp Ordering.gt a b = b < a

cmp : (a b : ℕ) → Cmp (compare a b) a b
cmp a b = go (compare a b) (leb→le a b) (nleb→lt a b) (eqb→eq a b) (λ (e : a ≡ b). subst (λ (x : ℕ). T (eqb a x)) e (eqb_refl a))
  where
    go : (o : Ordering) → (T (is_le o) → a ≤ b) → (T (not (is_le o)) → b < a) → (T (compare_is_eq o) → a ≡ b) → (a ≡ b → T (compare_is_eq o)) → Cmp o a b
    go Ordering.lt h k e n = lt_of_le-ne (h tt) n
    go Ordering.eq h k e n = e tt
    go Ordering.gt h k e n = k tt

-- ---- the multiple of a unit u that is chosen for n

-- It lies within half a unit of n, and where it is half a unit off it is even.
abbrev Half : ℕ → ℕ → ℕ → Type 0
Half n u q = (apart (q * u) n * 2 ≤ u) × (apart (q * u) n * 2 ≡ u → q % 2 ≡ 0)

-- At a tie either neighbour is half a unit off.
half-tie : (n u q r z : ℕ) → q * u + r ≡ n → r * 2 ≡ u → z < 2 → apart ((q + z) * u) n * 2 ≤ u
half-tie n u q r zero e h l = let a = add-mul q 0 u in omega arith
half-tie n u q r (suc zero) e h l = let a = add-mul q 1 u in omega arith
half-tie n u q r (suc (suc z)) e h l = absurd (omega arith)

half-by : (n u q r : ℕ) → q * u + r ≡ n → r < u → (o : Ordering) → Cmp o (r * 2) u → Half n u (nearest q o)
half-by n u q r e l Ordering.lt h = (omega arith, λ t. absurd (omega arith))
half-by n u q r e l Ordering.eq h = (half-tie n u q r (q % 2) e h (omega arith), λ t. omega arith)
half-by n u q r e l Ordering.gt h = let a = suc-mul q u in (omega arith, λ t. absurd (omega arith))

closest-half : (n u : ℕ) → 0 < u → Half n u (closest n u)
closest-half n u U = half-by n u (n / u) (n % u) (div-add-mod' n u) (mod-lt n U) (compare (n % u * 2) u) (cmp (n % u * 2) u)

-- Another multiple is a unit away from it.
same-or-apart : (q m u : ℕ) → (m ≡ q) ⊎ (u ≤ apart (m * u) (q * u))
same-or-apart q m u = go (dec_lt q m) (dec_lt m q)
  where
    go : Dec (q < m) → Dec (m < q) → (m ≡ q) ⊎ (u ≤ apart (m * u) (q * u))
    go (yes l) k = let a = mul-le-mul_right {m = suc q} {n = m} u l in let b = suc-mul q u in inr (omega arith)
    go (no l) (yes k) = let a = mul-le-mul_right {m = suc m} {n = q} u k in let b = suc-mul m u in inr (omega arith)
    go (no l) (no k) = inl (omega arith)

-- So none is nearer to n, and where another is as near, the chosen one is even.
half-near : (n u q m : ℕ) → Half n u q → apart (q * u) n ≤ apart (m * u) n
half-near n u q m h = elim (same-or-apart q m u) [ inl e ↦ le_of_eq (ap (λ (x : ℕ). apart (x * u) n) (sym e)) | inr l ↦ omega (arith, h.0) ]

half-even : (n u q m : ℕ) → Half n u q → (m ≡ q → ⊥) → apart (m * u) n ≡ apart (q * u) n → q % 2 ≡ 0
half-even n u q m h d t = elim (same-or-apart q m u) [ inl e ↦ absurd (d e) | inr l ↦ h.1 (omega (arith, h.0)) ]

-- ---- what `round` keeps of a / c, and how many digits it drops: both make `grid f a c`, in units of the format's smallest number

-- a / c in these units, c times over, as `distance` takes it.
abbrev exact : Format → ℕ → ℕ
exact f a = a * 2 ^ low f

abbrev keeps : Format → ℕ → ℕ → ℕ
keeps f a c = kept (prec f) (exact f a) c

abbrev cut : Format → ℕ → ℕ → ℕ
cut f a c = drop (prec f) (exact f a) c

-- What is kept counts these, c times over too.
abbrev unit : Format → ℕ → ℕ → ℕ
unit f a c = c * 2 ^ cut f a c

-- What is used of a format, by computing for each.
prec-pos : (f : Format) → 0 < prec f
prec-pos f = omega (arith, two f)

all-even : (f : Format) → 2 ^ prec f % 2 ≡ 0
all-even binary32 = refl
all-even binary64 = refl

top-even : (f : Format) → 2 ^ (prec f - 1) % 2 ≡ 0
top-even binary32 = refl
top-even binary64 = refl

twice-top : (f : Format) → 2 ^ prec f ≡ 2 ^ (prec f - 1) * 2
twice-top binary32 = refl
twice-top binary64 = refl

low-range : (f : Format) → prec f ≤ low f + suc (emax f)
low-range binary32 = lit≤ tt
low-range binary64 = lit≤ tt

-- A power is moved into the unit.
unit-of : (m k c : ℕ) → m * 2 ^ k * c ≡ m * (c * 2 ^ k)
unit-of m k c = mul_assoc m (2 ^ k) c ∙ ap (λ (x : ℕ). m * x) (mul_comm (2 ^ k) c)

module _ (f : Format) (a c : ℕ) (C : 0 < c) where
  -- It is the nearest multiple of its unit.
  keeps_half : Half (exact f a) (unit f a c) (keeps f a c)
  keeps_half = closest-half (exact f a) (unit f a c) (mul-pos C (pow_pos (cut f a c)))

  unit-near : (m : ℕ) → distance f a c (grid f a c) ≤ distance f a c (m * 2 ^ cut f a c)
  unit-near m = rw (unit-of (keeps f a c) (cut f a c) c, unit-of m (cut f a c) c) (half-near (exact f a) (unit f a c) (keeps f a c) m keeps_half)

  unit-even : (m : ℕ) → (m * 2 ^ cut f a c ≡ grid f a c → ⊥) → distance f a c (m * 2 ^ cut f a c) ≡ distance f a c (grid f a c) → keeps f a c % 2 ≡ 0
  unit-even m d t =
      half-even (exact f a) (unit f a c) (keeps f a c) m keeps_half (λ e. d (ap (λ (x : ℕ). x * 2 ^ cut f a c) e))
      (rw (unit-of (keeps f a c) (cut f a c) c, unit-of m (cut f a c) c) at t)

  -- It has no more digits than the format, but for a carry; and where some are dropped, no fewer.
  keeps-le : keeps f a c ≤ 2 ^ prec f
  keeps-le =
      let n = exact f a in
      let u = unit f a c in
      le_trans (nearest-le (n / u) (compare (n % u * 2) u)) (subst (λ (x : ℕ). x < 2 ^ prec f) (div-div-eq-div-mul n c (2 ^ cut f a c)) (kept-lt (prec f) (n / c)))

  reach : 0 < cut f a c → 2 ^ (prec f - 1 + cut f a c) ≤ exact f a / c
  reach K = size_reaches (exact f a / c) (prec f - 1 + cut f a c) (omega (arith, prec-pos f))

  keeps-ge : 0 < cut f a c → 2 ^ (prec f - 1) ≤ keeps f a c
  keeps-ge K =
      let n = exact f a in
      let k = cut f a c in
      let u = c * 2 ^ k in
      let h : 2 ^ (prec f - 1) * 2 ^ k ≤ n / c = le_trans (le_of_eq (sym (pow-add 2 (prec f - 1) k))) (reach K) in
      le_trans (subst (λ (x : ℕ). 2 ^ (prec f - 1) ≤ x) (div-div-eq-div-mul n c (2 ^ k)) ((le-div_iff_mul-le (pow_pos k)).1 h)) (nearest-ge (n / u) (compare (n % u * 2) u))

  -- Another number of the format, or beyond its largest: a multiple of the unit, or further away than one.
  coarse : (j i : ℕ) → j < 2 ^ prec f
      → ((m : ℕ) × (j * 2 ^ i ≡ m * 2 ^ cut f a c)) ⊎ ((m : ℕ) × (distance f a c (m * 2 ^ cut f a c) < distance f a c (j * 2 ^ i)))
  coarse j i J = go (dec_lt i (cut f a c))
    where
      k : ℕ
      k = cut f a c

      go : Dec (i < cut f a c) → ((m : ℕ) × (j * 2 ^ i ≡ m * 2 ^ cut f a c)) ⊎ ((m : ℕ) × (distance f a c (m * 2 ^ cut f a c) < distance f a c (j * 2 ^ i)))
      go (no l) =
          let s : 2 ^ (i - k) * 2 ^ k ≡ 2 ^ i = sym (pow-add 2 (i - k) k) ∙ ap (λ (x : ℕ). 2 ^ x) (omega arith) in
          inl (j * 2 ^ (i - k), ap (λ (x : ℕ). j * x) (sym s) ∙ sym (mul_assoc j (2 ^ (i - k)) (2 ^ k)))
      go (yes l) =
          let b = 2 ^ (prec f - 1) * 2 ^ k in
          let e : 2 ^ (prec f - 1 + k) ≡ b = pow-add 2 (prec f - 1) k in
          let less : j * 2 ^ i < b = lt_of_lt_of_le (shl_lt (prec f) i J) (le_trans (pow_mono (omega (arith, prec-pos f))) (le_of_eq e)) in
          let d : b * c ≤ exact f a = (le-div_iff_mul-le C).0 (le_trans (le_of_eq (sym e)) (reach (omega arith))) in
          inr (2 ^ (prec f - 1), omega (arith, mul-lt-mul_of_pos_right less C, d))

  -- So none is nearer, and where another is as near, what is kept is even.
  grid-near : (j i : ℕ) → j < 2 ^ prec f → distance f a c (grid f a c) ≤ distance f a c (j * 2 ^ i)
  grid-near j i J = elim (coarse j i J) [ inl x ↦ rw x.1 (unit-near x.0) | inr x ↦ le_trans (unit-near x.0) (le_of_lt x.1) ]

  grid-even : (j i : ℕ) → j < 2 ^ prec f → (j * 2 ^ i ≡ grid f a c → ⊥) → distance f a c (j * 2 ^ i) ≡ distance f a c (grid f a c) → keeps f a c % 2 ≡ 0
  grid-even j i J d t = elim (coarse j i J) [
    | inl x ↦ unit-even x.0 (λ e. d (x.1 ∙ e)) (rw x.1 at t)
    | inr x ↦ absurd (omega (arith, unit-near x.0, x.1, t))
  ]

-- ---- where infinities begin

-- The highest power, at which the unit of the largest numbers stands.
abbrev highest : Format → ℕ
highest f = low f + suc (emax f) - prec f

-- 2 ^ (emax + 1) in units.
abbrev beyond : Format → ℕ
beyond f = 2 ^ (low f + suc (emax f))

-- What is used of them, by computing for each format.
all_digits_lem : (f : Format) → 2 ^ prec f * 2 ^ highest f ≡ beyond f
all_digits_lem binary32 = refl
all_digits_lem binary64 = refl

overflow-pos : (f : Format) → 0 < overflow f
overflow-pos binary32 = lit≤ tt
overflow-pos binary64 = lit≤ tt

-- Twice the overflow is a unit less than twice that.
overflow-units : (f : Format) → overflow f * 2 ^ low f * 2 + 2 ^ highest f ≡ beyond f * 2
overflow-units binary32 = refl
overflow-units binary64 = refl

-- The same c times over, which is how a / c is compared with it.
limit-by : (o l e b c : ℕ) → o * l * 2 + e ≡ b * 2 → o * c * (l * 2) + c * e ≡ b * c * 2
limit-by o l e b c h =
    let x : o * l * 2 * c ≡ o * c * (l * 2) = mul_right_comm (o * l) 2 c ∙ ap (λ (z : ℕ). z * 2) (mul_right_comm o l c) ∙ mul_assoc (o * c) l 2 in
    omega (arith, x, mul_comm c e, sym (add-mul (o * l * 2) e c) ∙ ap (λ (z : ℕ). z * c) h ∙ mul_right_comm b 2 c)

limit : (f : Format) (c : ℕ) → overflow f * c * (2 ^ low f * 2) + c * 2 ^ highest f ≡ beyond f * c * 2
limit f c = limit-by (overflow f) (2 ^ low f) (2 ^ highest f) (beyond f) c (overflow-units f)

below-limit : (f : Format) (a c : ℕ) → a < overflow f * c → exact f a * 2 + c * 2 ^ highest f < beyond f * c * 2
below-limit f a c h = omega (arith, limit f c, mul-lt-mul_of_pos_right h (mul-pos (pow_pos (low f)) (pow_pos 1)), mul_assoc a (2 ^ low f) 2)

above-limit : (f : Format) (a c : ℕ) → overflow f * c ≤ a → beyond f * c * 2 ≤ exact f a * 2 + c * 2 ^ highest f
above-limit f a c h = omega (arith, limit f c, mul-le-mul_right (2 ^ low f * 2) h, mul_assoc a (2 ^ low f) 2)

-- The largest number and one of its units more.
largest : (f : Format) (c : ℕ) → (2 ^ prec f - 1) * (c * 2 ^ highest f) + c * 2 ^ highest f ≡ beyond f * c
largest f c =
    let u = c * 2 ^ highest f in
    let x = add-mul (2 ^ prec f - 1) 1 u in
    let y : (2 ^ prec f - 1 + 1) * u ≡ 2 ^ prec f * u = ap (λ (z : ℕ). z * u) (omega (arith, pow_pos (prec f))) in
    omega (arith, x, y, sym (unit-of (2 ^ prec f) (highest f) c) ∙ ap (λ (z : ℕ). z * c) (all_digits_lem f))

-- Below the overflow the largest number is nearer than any beyond it.
grid-below : (f : Format) (a c : ℕ) → 0 < c → a < overflow f * c → grid f a c < beyond f
grid-below f a c C h = go (dec_lt (grid f a c) (beyond f))
  where
    go : Dec (grid f a c < beyond f) → grid f a c < beyond f
    go (yes l) = l
    go (no l) =
        let near = grid-near f a c C (2 ^ prec f - 1) (highest f) (omega (arith, pow_pos (prec f))) in
        let far = mul-le-mul_right {m = beyond f} {n = grid f a c} c (omega arith) in
        absurd (omega (arith, near, far, mul-pos C (pow_pos (highest f)), unit-of (2 ^ prec f - 1) (highest f) c, largest f c, below-limit f a c h))

-- A number from 2 ^ j on has more than j digits.
size-gt : (n j : ℕ) → 2 ^ j ≤ n → j < size n
size-gt n j h = go (dec_lt j (size n))
  where
    go : Dec (j < size n) → j < size n
    go (yes l) = l
    go (no l) = absurd (omega (arith, h, size-lt n, pow_mono {i = size n} {j = j} (omega arith)))

-- From the overflow on at least as many digits are dropped as of the largest number.
cut-above : (f : Format) (a c : ℕ) → 0 < c → overflow f * c ≤ a → highest f ≤ cut f a c
cut-above f a c C h =
    let u = c * 2 ^ highest f in
    let t = 2 ^ (prec f - 1) in
    let x : 2 ^ prec f * u ≡ beyond f * c = sym (unit-of (2 ^ prec f) (highest f) c) ∙ ap (λ (z : ℕ). z * c) (all_digits_lem f) in
    let y : 2 ^ prec f * u ≡ t * u * 2 = ap (λ (z : ℕ). z * u) (twice-top f) ∙ mul_right_comm t 2 u in
    let enough : t * u ≤ exact f a = omega (arith, x, y, mul-le-mul_right u (pow_pos (prec f - 1)), above-limit f a c h) in
    let whole : t * 2 ^ highest f ≤ exact f a / c = (le-div_iff_mul-le C).1 (le_trans (le_of_eq (unit-of t (highest f) c)) enough) in
    omega (arith, prec-pos f, size-gt (exact f a / c) (prec f - 1 + highest f) (le_trans (le_of_eq (pow-add 2 (prec f - 1) (highest f))) whole))

-- If as many are, what is kept is all ones or has carried; all ones is odd, so that at the tie it carries.
carries : (f : Format) (a c : ℕ) → 0 < c → overflow f * c ≤ a → highest f ≡ cut f a c → 2 ^ prec f ≤ keeps f a c
carries f a c C h e = go (dec_lt (keeps f a c) (2 ^ prec f))
  where
    q : ℕ
    q = keeps f a c

    u : ℕ
    u = unit f a c

    ones : (2 ^ prec f - 1) * u + u ≡ beyond f * c
    ones = subst (λ (k : ℕ). (2 ^ prec f - 1) * (c * 2 ^ k) + c * 2 ^ k ≡ beyond f * c) e (largest f c)

    high : beyond f * c * 2 ≤ exact f a * 2 + u
    high = subst (λ (k : ℕ). beyond f * c * 2 ≤ exact f a * 2 + c * 2 ^ k) e (above-limit f a c h)

    half : Half (exact f a) u q
    half = keeps_half f a c C

    go : Dec (q < 2 ^ prec f) → 2 ^ prec f ≤ q
    go (no l) = omega arith
    go (yes l) =
        let le = mul-le-mul_right {m = q} {n = 2 ^ prec f - 1} u (omega arith) in
        let ge : (2 ^ prec f - 1) * u ≤ q * u = omega (arith, ones, high, half.0) in
        let even = half.1 (omega (arith, ones, high, half.0)) in
        absurd (omega (arith, even, all-even f, le_of_mul-le-mul_right ge (mul-pos C (pow_pos (cut f a c)))))

-- So the number reaches 2 ^ (emax + 1).
grid-above : (f : Format) (a c : ℕ) → 0 < c → overflow f * c ≤ a → beyond f ≤ grid f a c
grid-above f a c C h = elim (eq-or-lt_of_le (cut-above f a c C h)) [
  | inl e ↦
      le_trans (le_of_eq (sym (all_digits_lem f) ∙ ap (λ (k : ℕ). 2 ^ prec f * 2 ^ k) e)) (mul-le-mul_right (2 ^ cut f a c) (carries f a c C h e))
  | inr l ↦
      le_trans (le_of_eq (sym (all_digits_lem f) ∙ ap (λ (x : ℕ). x * 2 ^ highest f) (twice-top f) ∙ mul_assoc (2 ^ (prec f - 1)) 2 (2 ^ highest f)))
      (mul-le-mul (keeps-ge f a c C (omega arith)) (le_trans (le_of_eq (mul_comm 2 (2 ^ highest f) ∙ sym (pow-suc 2 (highest f)))) (pow_mono l)))
]

-- ---- the number that `round` makes is held, and the nearest

-- The smaller power of two has the smaller exponent.
pow-back : (i j : ℕ) → 2 ^ i < 2 ^ j → i < j
pow-back i j h = go (dec_lt i j)
  where
    go : Dec (i < j) → i < j
    go (yes l) = l
    go (no l) = absurd (omega (arith, h, pow_mono {i = j} {j = i} (omega arith)))

-- Below 2 ^ (emax + 1) a significand of all digits stands at no power above the highest.
in-range : (f : Format) (q k : ℕ) → 2 ^ (prec f - 1) ≤ q → q * 2 ^ k < beyond f → k + prec f ≤ low f + suc (emax f)
in-range f q k h l =
    let x = pow-back (prec f - 1 + k) (low f + suc (emax f)) (lt_of_le_of_lt (le_trans (le_of_eq (pow-add 2 (prec f - 1) k)) (mul-le-mul_right (2 ^ k) h)) l) in
    omega (arith, x, prec-pos f)

-- A significand that carried is half of itself at the next power.
carried : (f : Format) (k : ℕ) → 2 ^ prec f * 2 ^ k ≡ 2 ^ (prec f - 1) * 2 ^ suc k
carried f k = ap (λ (x : ℕ). x * 2 ^ k) (twice-top f) ∙ mul_assoc (2 ^ (prec f - 1)) 2 (2 ^ k) ∙ ap (λ (x : ℕ). 2 ^ (prec f - 1) * x) (mul_comm 2 (2 ^ k) ∙ sym (pow-suc 2 k))

zero-or-more : (k : ℕ) → (k ≡ 0) ⊎ (0 < k)
zero-or-more zero = inl refl
zero-or-more (suc k) = inr (omega arith)

-- It is held, with a significand that has carried or not, and is the nearest.
grid-nearest : (f : Format) (a c : ℕ) → 0 < c → grid f a c < beyond f → Nearest f a c (grid f a c)
grid-nearest f a c C l = go (eq-or-lt_of_le (keeps-le f a c C)) (zero-or-more (cut f a c))
  where
    q : ℕ
    q = keeps f a c

    k : ℕ
    k = cut f a c

    near : (w : ℕ) → Holds f w → distance f a c (grid f a c) ≤ distance f a c w
    near w h = rw h.is (grid-near f a c C h.significand h.power h.digits)

    even : (w : ℕ) → Holds f w → (w ≡ grid f a c → ⊥) → distance f a c w ≡ distance f a c (grid f a c) → q % 2 ≡ 0
    even w h d t = grid-even f a c C h.significand h.power h.digits (λ e. d (h.is ∙ e)) (ap (distance f a c) (sym h.is) ∙ t)

    go : (q ≡ 2 ^ prec f) ⊎ (q < 2 ^ prec f) → (k ≡ 0) ⊎ (0 < k) → Nearest f a c (grid f a c)
    go (inl e) z =
        let half = 2 ^ (prec f - 1) in
        let is : grid f a c ≡ half * 2 ^ suc k = ap (λ (x : ℕ). x * 2 ^ k) e ∙ carried f k in
        record {
          held = record {
            significand = half;
            power = suc k;
            digits = omega (arith, twice-top f, pow_pos (prec f - 1));
            range = in-range f half (suc k) (le_of_eq refl) (subst (λ (x : ℕ). x < beyond f) is l);
            is = is;
          };
          full = inr (le_of_eq refl);
          nearest = near;
          even = λ w h d t. top-even f;
        }
    go (inr d) (inl z) = record {
      held = record { significand = q; power = k; digits = d; range = omega (arith, z, low-range f); is = refl };
      full = inl z;
      nearest = near;
      even = even;
    }
    go (inr d) (inr z) =
        let ge = keeps-ge f a c C z in
        record { held = record { significand = q; power = k; digits = d; range = in-range f q k ge l; is = refl }; full = inr ge; nearest = near; even = even }

-- ---- the float

-- From 2 ^ (emax + 1) on `round` makes an infinity.
units-large : (f : Format) (s : Bool) (q k : ℕ) → beyond f ≤ q * 2 ^ k → units f s q k ≡ inf s
unfolding units
units-large f s q k h = go (ltb (q * 2 ^ k) (beyond f)) (ltb→lt (q * 2 ^ k) (beyond f))
  where
    go : (b : Bool) → (T b → q * 2 ^ k < beyond f) → cond b (odd (suc (prec f)) s q k (low f)) (inf s) ≡ inf s
    go true g = absurd (omega (arith, g tt))
    go false g = refl

-- `round` rounds.
pub rounded : (f : Format) (s : Bool) (a c : ℕ) → 0 < c → Rounded f s a c (round f s a c)
rounded f s a c C = go (dec_lt a (overflow f * c))
  where
    q : ℕ
    q = keeps f a c

    k : ℕ
    k = cut f a c

    go : Dec (a < overflow f * c) → Rounded f s a c (round f s a c)
    go (yes l) =
        let small = grid-below f a c C l in
        finite (grid f a c) l (grid-nearest f a c C small)
        (subst (λ (x : Float). HasValue x s (grid f a c) (2 ^ low f)) (sym (round_is f s a c)) (units_val f s q k small))
    go (no l) = let h : overflow f * c ≤ a = omega arith in infinite h (round_is f s a c ∙ units-large f s q k (grid-above f a c C h))

-- A zero of either sign is zero rounded.
pub zero-rounded : (f : Format) (s : Bool) (c : ℕ) → 0 < c → Rounded f s 0 c (fin s 0 (pos 0))
zero-rounded f s c C = finite 0 (mul-pos (overflow-pos f) C) nearest_zero (refl, zero-mul (2 ^ low f))
  where
    nearest_zero : Nearest f 0 c 0
    nearest_zero = record {
      held = record { significand = 0; power = 0; digits = pow_pos (prec f); range = omega (arith, low-range f); is = refl };
      full = inl refl;
      nearest = λ w h. omega arith;
      even = λ w h d t. refl;
    }

-- ---- one answer

-- Between a number whose significand is even, of all digits or at the lowest power, and any higher one with an even significand lies the
-- number with the next significand.
gap : (f : Format) (q k r i : ℕ)
    → (k ≡ 0) ⊎ (2 ^ (prec f - 1) ≤ q) → q % 2 ≡ 0 → r % 2 ≡ 0 → r < 2 ^ prec f → q * 2 ^ k < r * 2 ^ i → suc q * 2 ^ k < r * 2 ^ i
gap f q k r i full Q R l h = go (dec_lt i k)
  where
    go : Dec (i < k) → suc q * 2 ^ k < r * 2 ^ i
    go (no g) =
        let t = r / 2 * 2 ^ (i - k) in
        let s : 2 ^ (i - k) * 2 ^ k ≡ 2 ^ i = sym (pow-add 2 (i - k) k) ∙ ap (λ (x : ℕ). 2 ^ x) (omega arith) in
        let m : r * 2 ^ (i - k) ≡ t * 2 = ap (λ (x : ℕ). x * 2 ^ (i - k)) (omega arith) ∙ mul_right_comm (r / 2) 2 (2 ^ (i - k)) in
        let e : t * 2 * 2 ^ k ≡ r * 2 ^ i = ap (λ (x : ℕ). x * 2 ^ k) (sym m) ∙ mul_assoc r (2 ^ (i - k)) (2 ^ k) ∙ ap (λ (x : ℕ). r * x) s in
        let less : q < t * 2 = lt_of_mul-lt-mul_right (2 ^ k) (lt_of_lt_of_le h (le_of_eq (sym e))) in
        lt_of_lt_of_le (mul-lt-mul_of_pos_right {m = suc q} {n = t * 2} (omega arith) (pow_pos k)) (le_of_eq e)
    go (yes g) =
        let small : r * 2 ^ i < 2 ^ (prec f - 1) * 2 ^ k =
        lt_of_lt_of_le (shl_lt (prec f) i l) (le_trans (pow_mono (omega (arith, prec-pos f))) (le_of_eq (pow-add 2 (prec f - 1) k))) in
        elim full [ inl z ↦ absurd (omega arith) | inr t ↦ absurd (omega (arith, mul-le-mul_right (2 ^ k) t)) ]

module _ (f : Format) (a c : ℕ) (C : 0 < c) where
  -- So of two such numbers that are equally near neither is the lower: that number lies between them, nearer.
  no_lower : {v w : ℕ} (x : Nearest f a c v) (y : Nearest f a c w)
      → x.held.significand % 2 ≡ 0 → y.held.significand % 2 ≡ 0 → distance f a c v ≡ distance f a c w → v < w → ⊥
  no_lower {v} {w} x y Q R e l =
      let q = x.held.significand in
      let k = x.held.power in
      let r = y.held.significand in
      let i = y.held.power in
      let is = x.held.is in
      let next : Holds f (suc q * 2 ^ k) =
      record { significand = suc q; power = k; digits = omega (arith, Q, all-even f, x.held.digits); range = x.held.range; is = refl } in
      let up : v < suc q * 2 ^ k = omega (arith, is, suc-mul q (2 ^ k), pow_pos k) in
      let down : suc q * 2 ^ k < w =
      lt_of_lt_of_le (gap f q k r i x.full Q R y.held.digits (omega (arith, is, y.held.is))) (le_of_eq (sym y.held.is)) in
      omega (arith, x.nearest (suc q * 2 ^ k) next, mul-lt-mul_of_pos_right up C, mul-lt-mul_of_pos_right down C, e)

  -- The nearest number is one.
  one-nearest : {v w : ℕ} → Nearest f a c v → Nearest f a c w → v ≡ w
  one-nearest {v} {w} x y = go (dec_lt v w) (dec_lt w v)
    where
      level : distance f a c v ≡ distance f a c w
      level = omega (arith, x.nearest w y.held, y.nearest v x.held)

      go : Dec (v < w) → Dec (w < v) → v ≡ w
      go (yes l) k = absurd (no_lower x y (x.even w y.held (λ e. omega arith) (sym level)) (y.even v x.held (λ e. omega arith) level) level l)
      go (no l) (yes k) = absurd (no_lower y x (y.even v x.held (λ e. omega arith) level) (x.even w y.held (λ e. omega arith) (sym level)) (sym level) k)
      go (no l) (no k) = omega arith

-- The bits of v units with a sign.
value-bits : (f : Format) (x : Float) (s : Bool) (v : ℕ) → HasValue x s v (2 ^ low f)
    → to_bits f x ≡ cond s (top f) 0 + (size v - prec f) * hid f + v / 2 ^ (size v - prec f)
unfolding to_bits
value-bits f nan s v h = absurd h
value-bits f (inf t) s v h = absurd h
value-bits f (fin t m e) s v h =
    ap (λ (b : Bool). cond b (top f) 0 + (size (m * up e * 2 ^ low f / down e) - prec f) * hid f + m * up e * 2 ^ low f / down e / 2 ^ (size (m * up e * 2 ^ low f / down e) - prec f)) h.0
    ∙ ap (λ (n : ℕ). cond s (top f) 0 + (size n - prec f) * hid f + n / 2 ^ (size n - prec f)) (ap (λ (n : ℕ). n / down e) h.1 ∙ mul-div_cancel v (down_pos e))

-- What is rounded has one pattern of bits.
pub one-rounding : (f : Format) (s : Bool) (a c : ℕ) (x y : Float) → 0 < c → Rounded f s a c x → Rounded f s a c y → to_bits f x ≡ to_bits f y
one-rounding f s a c x y C (finite v l n h) (finite w k m g) =
    value-bits f x s v h ∙ ap (λ (z : ℕ). cond s (top f) 0 + (size z - prec f) * hid f + z / 2 ^ (size z - prec f)) (one-nearest f a c C n m) ∙ sym (value-bits f y s w g)
one-rounding f s a c x y C (finite v l n h) (infinite k e) = absurd (omega arith)
one-rounding f s a c x y C (infinite l e) (finite w k m g) = absurd (omega arith)
one-rounding f s a c x y C (infinite l e) (infinite k g) = ap (to_bits f) (e ∙ sym g)
