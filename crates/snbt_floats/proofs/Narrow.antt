-- A fraction a / 2 ^ (low + t), rounded to a format: what is dropped and what is kept, in the two ranges. One law for every format.
-- Assumes nothing.
use mathlib.Core.Path.{◌≡◌, sym, ap, ◌∙◌, subst}
use Prim.Native.Nat.{ℕ, suc, ◌+◌, ◌-◌, ◌*◌, ◌/◌, ◌^◌, ◌≤◌, ◌<◌}
use native.Mathlib.Nat.{le_trans, le_of_eq, lt_of_lt_of_le, mul_assoc, mul-one, mul-pos, mul-le-mul_right, le-div_iff_mul-le, div-lt_iff_lt-mul}
use native.Mathlib.Omega.{arith}
use lib.Pow.{pow-add, pow_pos, shl_lt}
use lib.Ieee.{Format, prec, low, size}
use lib.Ieee.Digits.{size-le}
use lib.Ieee.Nearest.{closest, closest_same, div_same}
use lib.Ieee.Order.{drop, kept}
use Rattle.snbt_floats.proofs.Rounded.{size_exact}

module _ (f : Format) (t a : ℕ) where
  scaled : ℕ
  scaled = a * 2 ^ low f

  unit : ℕ
  unit = 2 ^ (low f + t)

  cross : scaled * 2 ^ t ≡ a * unit
  unfolding scaled unit
  cross = mul_assoc a (2 ^ low f) (2 ^ t) ∙ ap (λ (x : ℕ). a * x) (sym (pow-add 2 (low f) t))

  -- in units of the format's smallest value the fraction is a / 2 ^ t
  units-are : a * 2 ^ low f / 2 ^ (low f + t) ≡ a / 2 ^ t
  unfolding scaled unit
  units-are = div_same (a * 2 ^ low f) (2 ^ (low f + t)) a (2 ^ t) (pow_pos (low f + t)) (pow_pos t) cross

  kept-is : (k : ℕ) → closest (a * 2 ^ low f) (2 ^ (low f + t) * 2 ^ k) ≡ closest a (2 ^ t * 2 ^ k)
  unfolding scaled unit
  kept-is k =
      closest_same (a * 2 ^ low f) (2 ^ (low f + t) * 2 ^ k) a (2 ^ t * 2 ^ k) (mul-pos (pow_pos (low f + t)) (pow_pos k)) (mul-pos (pow_pos t) (pow_pos k))
      (sym (mul_assoc (a * 2 ^ low f) (2 ^ t) (2 ^ k)) ∙ ap (λ (x : ℕ). x * 2 ^ k) cross ∙ mul_assoc a (2 ^ (low f + t)) (2 ^ k))

none : (z p : ℕ) → z ≤ p → z - p ≡ 0
none z p h = omega arith

-- a small fraction: nothing is dropped beyond the smallest value's place
pub small-drop : (f : Format) (t a : ℕ) → a < 2 ^ (prec f + t) → drop (prec f) (a * 2 ^ low f) (2 ^ (low f + t)) ≡ 0
small-drop f t a h =
    none (size (a * 2 ^ low f / 2 ^ (low f + t))) (prec f)
    (size-le (a * 2 ^ low f / 2 ^ (low f + t)) (prec f)
    (subst (λ (x : ℕ). x < 2 ^ prec f) (sym (units-are f t a)) ((div-lt_iff_lt-mul (pow_pos t)).1 (subst (λ (x : ℕ). a < x) (pow-add 2 (prec f) t) h))))

pub small-kept : (f : Format) (t a : ℕ) → a < 2 ^ (prec f + t) → kept (prec f) (a * 2 ^ low f) (2 ^ (low f + t)) ≡ closest a (2 ^ t)
small-kept f t a h =
    ap (λ (k : ℕ). closest (a * 2 ^ low f) (2 ^ (low f + t) * 2 ^ k)) (small-drop f t a h) ∙ kept-is f t a 0 ∙ ap (λ (x : ℕ). closest a x) (mul-one (2 ^ t))

-- ---- n * 2 ^ j, for an n of b + 1 digits
over : (b j t k p : ℕ) → k + p + t ≡ suc b + j → 0 < p → suc (b + j - t) - p ≡ k
over b j t k p e P = omega arith

whole : (b j t k p : ℕ) → k + p + t ≡ suc b + j → 0 < p → b + j - t + t ≡ b + j
whole b j t k p e P = omega arith

pub full-drop : (f : Format) (t b n j k : ℕ) → 0 < prec f → 2 ^ b ≤ n → n < 2 ^ suc b → k + prec f + t ≡ suc b + j
    → drop (prec f) (n * 2 ^ j * 2 ^ low f) (2 ^ (low f + t)) ≡ k
full-drop f t b n j k P lo hi e =
    let p = prec f in
    let a = n * 2 ^ j in
    let at : 2 ^ (b + j - t) * 2 ^ t ≡ 2 ^ (b + j) = sym (pow-add 2 (b + j - t) t) ∙ ap (λ (x : ℕ). 2 ^ x) (whole b j t k p e P) in
    let at' : 2 ^ suc (b + j - t) * 2 ^ t ≡ 2 ^ (suc b + j) = sym (pow-add 2 (suc (b + j - t)) t) ∙ ap (λ (x : ℕ). 2 ^ x) (next (b + j - t) t b j (whole b j t k p e P)) in
    let lo' : 2 ^ (b + j - t) ≤ a / 2 ^ t = (le-div_iff_mul-le (pow_pos t)).1 (le_trans (le_of_eq (at ∙ pow-add 2 b j)) (mul-le-mul_right (2 ^ j) lo)) in
    let hi' : a / 2 ^ t < 2 ^ suc (b + j - t) = (div-lt_iff_lt-mul (pow_pos t)).1 (lt_of_lt_of_le (shl_lt (suc b) j hi) (le_of_eq (sym at'))) in
    ap (λ (x : ℕ). size x - p) (units-are f t a) ∙ ap (λ (x : ℕ). x - p) (size_exact (b + j - t) (a / 2 ^ t) lo' hi') ∙ over b j t k p e P
  where
    next : (x t b j : ℕ) → x + t ≡ b + j → suc x + t ≡ suc b + j
    next x t b j e = omega arith

pub full-kept : (f : Format) (t b n j k g : ℕ) → 0 < prec f → 2 ^ b ≤ n → n < 2 ^ suc b → k + prec f + t ≡ suc b + j → g + prec f ≡ suc b
    → kept (prec f) (n * 2 ^ j * 2 ^ low f) (2 ^ (low f + t)) ≡ closest n (2 ^ g)
full-kept f t b n j k g P lo hi e d =
    ap (λ (x : ℕ). closest (n * 2 ^ j * 2 ^ low f) (2 ^ (low f + t) * 2 ^ x)) (full-drop f t b n j k P lo hi e)
    ∙ kept-is f t (n * 2 ^ j) k
    ∙ closest_same (n * 2 ^ j) (2 ^ t * 2 ^ k) n (2 ^ g) (mul-pos (pow_pos t) (pow_pos k)) (pow_pos g)
    (mul_assoc n (2 ^ j) (2 ^ g) ∙ ap (λ (x : ℕ). n * x) (sym (pow-add 2 j g) ∙ ap (λ (x : ℕ). 2 ^ x) (swap (prec f) t b j k g e d) ∙ pow-add 2 t k))
  where
    swap : (p t b j k g : ℕ) → k + p + t ≡ suc b + j → g + p ≡ suc b → j + g ≡ t + k
    swap p t b j k g e d = omega arith

-- a divisor's common power of two
pub closest-shift : (n j t : ℕ) → j ≤ t → closest (n * 2 ^ j) (2 ^ t) ≡ closest n (2 ^ (t - j))
closest-shift n j t h =
    closest_same (n * 2 ^ j) (2 ^ t) n (2 ^ (t - j)) (pow_pos t) (pow_pos (t - j))
    (mul_assoc n (2 ^ j) (2 ^ (t - j)) ∙ ap (λ (x : ℕ). n * x) (sym (pow-add 2 j (t - j)) ∙ ap (λ (x : ℕ). 2 ^ x) (join j t h)))
  where
    join : (j t : ℕ) → j ≤ t → j + (t - j) ≡ t
    join j t h = omega arith
