-- Laws of numbers: digits and bytes over the width.
-- Assumes nothing.
use Prim.Native.Nat.{ℕ, ◌+◌, ◌*◌, ◌^◌, ◌≤◌, ◌<◌}
use mathlib.Core.List.{List, [], ◌∷◌, ◌++◌, foldl}
use mathlib.Core.Path.{◌≡◌, refl, ap, ◌∙◌}
use native.Mathlib.Omega.{arith}
use native.Mathlib.Numerals.{add-one}
use native.Mathlib.Nat.{pow-suc, pow-succ', pow-le-pow_right, add-mul, mul_assoc}
use lib.ListN.{length, get_or, take, drop, length-drop}
use lib.Seq.{take-suc, get_or-drop}
use Rattle.form.specs.Numbers.{value, big_endian}

-- one more byte
pub foldl-snoc : (f : ℕ → ℕ → ℕ) (a : ℕ) (xs : List ℕ) (b : ℕ) → foldl f a (xs ++ (b ∷ [])) ≡ f (foldl f a xs) b
foldl-snoc f a [] b = refl
foldl-snoc f a (x ∷ xs) b = foldl-snoc f (f a x) xs b

pub big-endian-none : big_endian [] ≡ 0
unfolding value
big-endian-none = refl

pub big-endian-more : (xs : List ℕ) (b : ℕ) → big_endian (xs ++ (b ∷ [])) ≡ big_endian xs * 256 + b
unfolding value
big-endian-more xs b = foldl-snoc (λ n d. n * 256 + d) 0 xs b

-- a digit in front of others counts by as many places as they take
digits_from : (n : ℕ) (xs : List ℕ) → foldl (λ m d. m * 256 + d) n xs ≡ n * 256 ^ length xs + foldl (λ m d. m * 256 + d) 0 xs
digits_from n [] = omega arith
digits_from n (x ∷ xs) =
    let p = 256 ^ length xs in
    omega (
      arith,
      digits_from (n * 256 + x) xs,
      digits_from (0 * 256 + x) xs,
      add-mul (n * 256) x p,
      add-mul (0 * 256) x p,
      mul_assoc n 256 p,
      ap (λ (q : ℕ). n * q) (pow-succ' 256 (length xs)),
    )

pub big-endian-first : (x : ℕ) (xs : List ℕ) → big_endian (x ∷ xs) ≡ x * 256 ^ length xs + big_endian xs
unfolding value
big-endian-first x xs =
    let z : 0 * 256 + x ≡ x = omega arith in
    ap (λ (n : ℕ). foldl (λ m d. m * 256 + d) n xs) z ∙ digits_from x xs

pub big-endian-next : (doc : List ℕ) (at i : ℕ) → at + i < length doc
    → big_endian (take (i + 1) (drop at doc)) ≡ big_endian (take i (drop at doc)) * 256 + get_or doc (at + i) 0
big-endian-next doc at i h =
    rw (add-one, take-suc (drop at doc) i 0 (simp length-drop (omega arith)), big-endian-more, get_or-drop) refl

-- a byte more keeps a number below the next power
pub below_next : (v b i : ℕ) → v < 256 ^ i → b < 256 → v * 256 + b < 256 ^ (i + 1)
below_next v b i h l = rw (add-one, pow-suc) (omega arith)

pub pow-le : (i n : ℕ) → i ≤ n → 256 ^ i ≤ 256 ^ n
pow-le i n h = pow-le-pow_right (omega arith) h
