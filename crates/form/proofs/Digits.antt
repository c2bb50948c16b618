-- Laws of digits, over the width: a number and its digits back and forth, and two's complement back and forth.
-- Assumes nothing.
use Prim.Native.Nat.{ℕ, zero, suc, ◌+◌, ◌-◌, ◌*◌, ◌/◌, ◌%◌, ◌^◌, ◌≤◌, ◌<◌}
use mathlib.Core.List.{List, [], ◌∷◌, ◌++◌}
use mathlib.Core.Bool.{Bool, true, false, not}
use mathlib.Core.Path.{◌≡◌, refl, sym, ap, ◌∙◌, subst}
use native.Mathlib.Omega.{arith}
use native.Mathlib.Nat.{pow-suc, one-le-pow, mod-one, mod-lt, mod-eq_of_lt, suc-mul}
use native.Mathlib.Numerals.{sub-one}
use borrow.Author.Tests.{lt-ltb, le-ltb}
use lib.Dec.{T, ltb, ltb→lt, nltb→le, lit<}
use lib.Arith.{digits_div, digits_mod, mod-mul}
use lib.Pow.{pow-add}
use lib.IntN.{ℤ, pos, negsuc}
use lib.ListN.{length, get_or, take, length-append}
use lib.Seq.{take-suc, take-length}
use Rattle.form.specs.Answer.{pick}
use Rattle.form.specs.Numbers.{value, digits, values_in, signed_of, bits_of, FitsIn}
use Rattle.form.proofs.Numbers.{big-endian-none, big-endian-more}

-- ---- a number and its digits

-- How many digits there are.
pub digits-length : (w v : ℕ) → length (digits w v) ≡ w
unfolding digits
digits-length zero v = refl
digits-length (suc w) v = simp length-append (omega (arith, digits-length w (v / 256)))

-- The number that w digits of v are: v modulo the number of values.
pub value-digits : (w v : ℕ) → value (digits w v) ≡ v % 256 ^ w
unfolding digits
value-digits zero v = big-endian-none ∙ sym (mod-one v)
value-digits (suc w) v =
    big-endian-more (digits w (v / 256)) (v % 256)
    ∙ ap (λ x. x * 256 + v % 256) (value-digits w (v / 256))
    ∙ sym (ap (λ x. v % x) (pow-suc 256 w) ∙ mod-mul v (one-le-pow w 256 (lit< tt)) (lit< tt))

-- So a number below the number of values is the number that its digits are.
pub value-digits-below : (w v : ℕ) → v < values_in w → value (digits w v) ≡ v
value-digits-below w v h = value-digits w v ∙ mod-eq_of_lt h

-- One more digit.
pub value-next : (ds : List ℕ) (i : ℕ) → i < length ds → value (take (suc i) ds) ≡ value (take i ds) * 256 + get_or ds i 0
value-next ds i h = ap value (take-suc ds i 0 h) ∙ big-endian-more (take i ds) (get_or ds i 0)

-- The digits of the number that the first i digits are.
digits-take : (ds : List ℕ) → ((k : ℕ) → get_or ds k 0 < 256) → (i : ℕ) → i ≤ length ds → digits i (value (take i ds)) ≡ take i ds
unfolding digits
digits-take ds b zero h = refl
digits-take ds b (suc i) h =
    rw (
      value-next ds i h,
      digits_div (value (take i ds)) (b i),
      digits_mod (value (take i ds)) (b i),
      digits-take ds b i (omega arith),
    )
    (sym (take-suc ds i 0 h))

-- Digits below 256 are the digits of the number that they are.
pub digits_value : (ds : List ℕ) → ((k : ℕ) → get_or ds k 0 < 256) → digits (length ds) (value ds) ≡ ds
digits_value ds b = subst (λ l. digits (length ds) (value l) ≡ l) (take-length ds) (digits-take ds b (length ds) (omega arith))

-- The number that digits below 256 are is below the number of values of as many.
pub value-below : (ds : List ℕ) → ((k : ℕ) → get_or ds k 0 < 256) → value ds < values_in (length ds)
value-below ds b =
    let n = length ds in
    let e : value ds ≡ value ds % 256 ^ n = ap value (sym (digits_value ds b)) ∙ value-digits n (value ds) in
    subst (λ v. v < 256 ^ n) (sym e) (mod-lt (value ds) (one-le-pow n 256 (lit< tt)))

-- Each digit is below 256.
pub digits-below : (w v k : ℕ) → get_or (digits w v) k 0 < 256
unfolding digits
digits-below zero v k = omega arith
digits-below (suc w) v k = snoc-below (digits w (v / 256)) (v % 256) k (digits-below w (v / 256)) (omega arith)
  where
    snoc-below : (xs : List ℕ) (b k : ℕ) → ((j : ℕ) → get_or xs j 0 < 256) → b < 256 → get_or (xs ++ (b ∷ [])) k 0 < 256
    snoc-below [] b zero h l = l
    snoc-below [] b (suc k) h l = omega arith
    snoc-below (x ∷ xs) b zero h l = h 0
    snoc-below (x ∷ xs) b (suc k) h l = snoc-below xs b k (λ j. h (suc j)) l

-- The w lowest digits of a number are those of what is left of it modulo the number of values.
pub digits-modulo : (w v : ℕ) → digits w (v % 256 ^ w) ≡ digits w v
digits-modulo w v =
    ap (digits w) (sym (value-digits w v))
    ∙ subst (λ n. digits n (value (digits w v)) ≡ digits w v) (digits-length w v) (digits_value (digits w v) (digits-below w v))

-- ---- two's complement

-- The number of values of a width that is not 0 is even.
pub halves : (w : ℕ) → 0 < w → values_in w ≡ 2 * (values_in w / 2)
halves zero h = absurd (omega arith)
halves (suc w) h = rw (pow-suc 256 w) (omega arith)

-- A bound that some integer fits is that of a width that is not 0.
pub fits_width : (w : ℕ) (v : ℤ) → FitsIn w v → 0 < w
fits_width zero (pos n) h = absurd (omega arith)
fits_width zero (negsuc n) h = absurd (omega arith)
fits_width (suc w) v h = omega arith

-- The bits of an integer that fits w bytes are those of w bytes.
pub bits_below : (w : ℕ) (v : ℤ) → FitsIn w v → bits_of w v < values_in w
bits_below w (pos n) h = omega (arith, halves w (fits_width w (pos n) h))
bits_below w (negsuc n) h = omega (arith, halves w (fits_width w (negsuc n) h))

-- The integer that its own bits stand for.
pub signed-bits : (w : ℕ) (v : ℤ) → FitsIn w v → signed_of w (bits_of w v) ≡ v
signed-bits w (pos n) h = rw (lt-ltb n (values_in w / 2) h) refl
signed-bits w (negsuc n) h =
    let e = halves w (fits_width w (negsuc n) h) in
    let back : values_in w - suc (values_in w - suc n) ≡ n = omega (arith, e) in
    rw (le-ltb (values_in w - suc n) (values_in w / 2) (omega (arith, e)), back) refl

-- The bits of the integer that they stand for.
pub bits-signed : (w b : ℕ) → b < values_in w → bits_of w (signed_of w b) ≡ b
bits-signed w b h = go (ltb b (values_in w / 2))
  where
    go : (t : Bool) → bits_of w (pick t (pos b) (negsuc (values_in w - suc b))) ≡ b
    go true = refl
    go false = omega arith

-- The bits of w bytes stand for an integer that fits them.
pub signed-fits : (w b : ℕ) → 0 < w → b < values_in w → FitsIn w (signed_of w b)
signed-fits w b p h = go (ltb b (values_in w / 2)) (ltb→lt b (values_in w / 2)) (nltb→le b (values_in w / 2))
  where
    go : (t : Bool) → (T t → b < values_in w / 2) → (T (not t) → values_in w / 2 ≤ b) → FitsIn w (pick t (pos b) (negsuc (values_in w - suc b)))
    go true y n = y tt
    go false y n = omega (arith, halves w p, n tt)

-- What is left of a wide two's complement modulo the values of a narrower width.
narrow : (w k n : ℕ) → n < 256 ^ w → (256 ^ (k + w) - suc n) % 256 ^ w ≡ 256 ^ w - suc n
narrow w k n h =
    ap (λ x. (x - suc n) % 256 ^ w) (pow-add 256 k w)
    ∙ ap (λ x. x % 256 ^ w) (split (256 ^ k) (256 ^ w) (one-le-pow k 256 (lit< tt)) h)
    ∙ digits_mod (256 ^ k - 1) {m = 256 ^ w} (omega arith)
  where
    times : (a m : ℕ) → suc a * m ≡ (suc a - 1) * m + m
    times a m = rw sub-one (suc-mul a m)

    split : (a m : ℕ) → 0 < a → n < m → a * m - suc n ≡ (a - 1) * m + (m - suc n)
    split zero m p l = absurd (omega arith)
    split (suc a) m p l = omega (arith, times a m)

-- The w lowest digits of the bits of W bytes, of an integer that fits w of them, are those of its bits in w bytes.
pub digits-narrow : (w W : ℕ) (v : ℤ) → w ≤ W → FitsIn w v → digits w (bits_of W v) ≡ digits w (bits_of w v)
digits-narrow w W (pos n) l h = refl
digits-narrow w W (negsuc n) l h =
    let e : W - w + w ≡ W = omega arith in
    sym (digits-modulo w (values_in W - suc n))
    ∙ ap (digits w) (subst (λ u. (256 ^ u - suc n) % 256 ^ w ≡ 256 ^ w - suc n) e (narrow w (W - w) n (omega arith)))
