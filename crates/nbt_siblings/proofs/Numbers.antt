-- Laws of names as numbers.
-- Assumes nothing.
use Prim.Native.Nat.{ℕ, zero, suc, ◌+◌, ◌-◌, ◌*◌, ◌^◌, ◌≤◌, ◌<◌}
use mathlib.Core.Bool.{Bool, true, false}
use mathlib.Core.List.{List, ◌∷◌}
use mathlib.Core.Path.{◌≡◌, refl, sym, ap, ◌∙◌}
use native.Mathlib.Omega.{arith}
use native.Mathlib.Numerals.{sub-one}
use native.Mathlib.Nat.{pow-suc, pow-succ', pow-le-pow_right, mul-le-mul_right, add-mul, mul_assoc}
use lib.ListN.{length, get_or}
use Rattle.form.specs.Spans.{same, part}
use Rattle.form.specs.Numbers.{value}
use Rattle.form.specs.Table.{word}
use Rattle.form.proofs.Numbers.{big-endian-first}
use Rattle.form.proofs.Spans.{same_self, part_length, part-cons, same_true}
use Rattle.nbt_siblings.specs.Names.{name_of}
use Rattle.nbt_siblings.specs.Links.{four_of, eight_of, num, Fit}
use Rattle.nbt_siblings.proofs.Cases.{less_by}

-- a number's first digit
value-part : (doc : List ℕ) (a n : ℕ) → 0 < n → a + n ≤ length doc
    → value (part doc a n) ≡ get_or doc a 0 * 256 ^ (n - 1) + value (part doc (a + 1) (n - 1))
value-part doc a n h l =
    rw (part-cons doc a n h (omega arith)) (big-endian-first (get_or doc a 0) (part doc (a + 1) (n - 1)) ∙ rw (part_length doc (a + 1) (n - 1) (omega arith)) refl)

value_none : (doc : List ℕ) (a n : ℕ) → n ≤ 0 → value (part doc a n) ≡ 0
unfolding value
value_none doc a zero h = refl
value_none doc a (suc n) h = absurd (omega arith)

-- the same, with the place of the next one by another name
value-next : (doc : List ℕ) (a n b : ℕ) → b ≡ a + 1 → a + suc n ≤ length doc → value (part doc a (suc n)) ≡ get_or doc a 0 * 256 ^ n + value (part doc b n)
value-next doc a n b e l = rw (e) (rw (sub-one (suc n)) at (value-part doc a (suc n) (omega arith) l))

pow-plus : (m k : ℕ) → 256 ^ (m + k) ≡ 256 ^ m * 256 ^ k
pow-plus zero k = let p : 0 + k ≡ k = omega arith in rw p (omega arith)
pow-plus (suc m) k =
    let p : suc m + k ≡ suc (m + k) = omega arith in
    rw p (omega (arith, pow-succ' 256 (m + k), ap (λ w. w * 256 ^ k) (pow-succ' 256 m), mul_assoc 256 (256 ^ m) (256 ^ k), pow-plus m k))

-- a number in two parts
value-parts : (doc : List ℕ) (m k a : ℕ) → a + (m + k) ≤ length doc → value (part doc a (m + k)) ≡ value (part doc a m) * 256 ^ k + value (part doc (a + m) k)
unfolding value
value-parts doc zero k a l =
    let p : 0 + k ≡ k = omega arith in
    let q : a + 0 ≡ a = omega arith in
    rw (p, q) (omega arith)
value-parts doc (suc m) k a l =
    let p : suc m + k ≡ suc (m + k) = omega arith in
    let q : a + suc m ≡ a + 1 + m = omega arith in
    rw (p, q)
    (omega (
      arith,
      value-next doc a (m + k) (a + 1) refl (omega arith),
      value-next doc a m (a + 1) refl (omega arith),
      value-parts doc m k (a + 1) (omega arith),
      ap (λ w. get_or doc a 0 * w) (pow-plus m k),
      mul_assoc (get_or doc a 0) (256 ^ m) (256 ^ k),
      ap (λ w. w * 256 ^ k) (value-next doc a m (a + 1) refl (omega arith)),
      add-mul (get_or doc a 0 * 256 ^ m) (value (part doc (a + 1) m)) (256 ^ k),
    ))

-- one byte, and eight
pub value-one : (doc : List ℕ) (a : ℕ) → a + 1 ≤ length doc → value (part doc a 1) ≡ get_or doc a 0
value-one doc a l = omega (arith, value-next doc a 0 (a + 1) refl (omega arith), value_none doc (a + 1) 0 (omega arith))

pub value-eight : (doc : List ℕ) (a : ℕ) → a + 8 ≤ length doc → value (part doc a 8) ≡ eight_of doc a
unfolding four_of eight_of
value-eight doc a l =
    omega (
      arith,
      value-next doc a 7 (a + 1) refl (omega arith),
      value-next doc (a + 1) 6 (a + 2) (omega arith) (omega arith),
      value-next doc (a + 2) 5 (a + 3) (omega arith) (omega arith),
      value-next doc (a + 3) 4 (a + 4) (omega arith) (omega arith),
      value-next doc (a + 4) 3 (a + 4 + 1) (omega arith) (omega arith),
      value-next doc (a + 4 + 1) 2 (a + 4 + 2) (omega arith) (omega arith),
      value-next doc (a + 4 + 2) 1 (a + 4 + 3) (omega arith) (omega arith),
      value-next doc (a + 4 + 3) 0 (a + 8) (omega arith) (omega arith),
      value_none doc (a + 8) 0 (omega arith),
    )

-- digits x < y before what is below the power
digit-less : (x y p u v : ℕ) → x < y → u < p → x * p + u < y * p + v
digit-less x y p u v h l = omega (arith, mul-le-mul_right {m = x + 1} {n = y} p (omega arith), add-mul x 1 p)

module _ (doc : List ℕ) (bytes : (i : ℕ) → get_or doc i 0 < 256) where
  value-below : (n a : ℕ) → a + n ≤ length doc → value (part doc a n) < 256 ^ n
  unfolding value
  value-below zero a l = omega arith
  value-below (suc n) a l =
      omega (
        arith,
        value-next doc a n (a + 1) refl l,
        value-below n (a + 1) (omega arith),
        digit-less (get_or doc a 0) 256 (256 ^ n) (value (part doc (a + 1) n)) 0 (bytes a) (value-below n (a + 1) (omega arith)),
        pow-suc 256 n,
      )

  -- the shorter name is the lesser number
  pub num-shorter : (a n b m : ℕ) → a + n ≤ length doc → b + m ≤ length doc → n < m → num (part doc a n) < num (part doc b m)
  unfolding num
  num-shorter a n b m la lb h =
      rw (part_length doc a n la, part_length doc b m lb)
      (omega (arith, value-below n a la, pow-suc 256 n, pow-le-pow_right {n = 256} (omega arith) {i = suc n} {j = m} (omega arith)))

pub num-is : (doc : List ℕ) (a n : ℕ) → a + n ≤ length doc → num (part doc a n) ≡ 256 ^ n + value (part doc a n)
unfolding num
num-is doc a n l = rw (part_length doc a n l) refl

-- ---- names that are the same

-- numbers that differ are of names that differ
pub num-other : (xs ys : List ℕ) → (num xs ≡ num ys → ⊥) → false ≡ same xs ys
num-other xs ys n = go (same xs ys) refl
  where
    go : (b : Bool) → same xs ys ≡ b → false ≡ same xs ys
    go true e = absurd (n (ap num (same_true xs ys e)))
    go false e = sym e

digit-eq : (x y p u v : ℕ) → x * p + u ≡ y * p + v → u < p → v < p → x ≡ y
digit-eq x y p u v e hu hv =
    less_by x y (λ l. absurd (omega (arith, e, digit-less x y p u v l hu)))
    (λ f. less_by y x (λ l. absurd (omega (arith, e, digit-less y x p v u l hv))) (λ g. omega arith))

module _ (doc : List ℕ) (bytes : (i : ℕ) → get_or doc i 0 < 256) where
  value_same : (n a b : ℕ) → a + n ≤ length doc → b + n ≤ length doc → value (part doc a n) ≡ value (part doc b n) → part doc a n ≡ part doc b n
  value_same zero a b la lb e = refl
  value_same (suc n) a b la lb e =
      let ea = value-next doc a n (a + 1) refl la in
      let eb = value-next doc b n (b + 1) refl lb in
      let ca : part doc a (suc n) ≡ get_or doc a 0 ∷ part doc (a + 1) n = rw (sub-one (suc n)) at (part-cons doc a (suc n) (omega arith) (omega arith)) in
      let cb : part doc b (suc n) ≡ get_or doc b 0 ∷ part doc (b + 1) n = rw (sub-one (suc n)) at (part-cons doc b (suc n) (omega arith) (omega arith)) in
      let x : get_or doc a 0 ≡ get_or doc b 0 =
      digit-eq (get_or doc a 0) (get_or doc b 0) (256 ^ n) (value (part doc (a + 1) n)) (value (part doc (b + 1) n)) (sym ea ∙ e ∙ eb)
      (value-below doc bytes n (a + 1) (omega arith)) (value-below doc bytes n (b + 1) (omega arith)) in
      let r = value_same n (a + 1) (b + 1) (omega arith) (omega arith) (omega (arith, ea, eb, e, ap (λ d. d * 256 ^ n) x)) in
      ca ∙ (λ i. x i ∷ r i) ∙ sym cb

  num-same : (a n b m : ℕ) → a + n ≤ length doc → b + m ≤ length doc → num (part doc a n) ≡ num (part doc b m) → part doc a n ≡ part doc b m
  num-same a n b m la lb e =
      less_by n m (λ l. absurd (omega (arith, e, num-shorter doc bytes a n b m la lb l)))
      (λ f. less_by m n (λ l. absurd (omega (arith, e, num-shorter doc bytes b m a n lb la l))) (λ g. eqn (omega arith)))
    where
      eqn : (n ≡ m) → part doc a n ≡ part doc b m
      eqn q =
          let lb' : b + n ≤ length doc = omega arith in
          let e' : num (part doc a n) ≡ num (part doc b n) = e ∙ ap (λ k. num (part doc b k)) (sym q) in
          value_same n a b la lb' (omega (arith, num-is doc a n la, num-is doc b n lb', e')) ∙ ap (part doc b) q

  pub num-alike : (a n b m : ℕ) → a + n ≤ length doc → b + m ≤ length doc → num (part doc a n) ≡ num (part doc b m) → true ≡ same (part doc a n) (part doc b m)
  num-alike a n b m la lb e = sym (rw (num-same a n b m la lb e) (same_self (part doc b m)))

-- two records have the same name where the numbers of their names are the same
pub names_same : {doc t : List ℕ} {a b : ℕ} → ((i : ℕ) → get_or doc i 0 < 256) → Fit doc t a → Fit doc t b → num (name_of doc t a) ≡ num (name_of doc t b)
    → name_of doc t a ≡ name_of doc t b
unfolding name_of
names_same {doc = doc} {t = t} {a = a} {b = b} bytes fa fb e =
    num-same doc bytes (word t a 1) (word t a 2) (word t b 1) (word t b 2) fa.within fb.within e

-- ---- the comparison of two spans, from the front

-- the first i bytes of both are the same: what is left differs by as much as the whole
pub record Level (doc : List ℕ) (a b n i : ℕ) : Type 0 where
  pub within : i ≤ n
  pub is : value (part doc a n) + value (part doc (b + i) (n - i)) ≡ value (part doc b n) + value (part doc (a + i) (n - i))

pub level-start : (doc : List ℕ) (a b n : ℕ) → Level doc a b n 0
level-start doc a b n =
    let p : a + 0 ≡ a = omega arith in
    let q : b + 0 ≡ b = omega arith in
    let r : n - 0 ≡ n = omega arith in
    record { within = omega arith; is = rw (p, q, r) (omega arith) }

pub level-end : {doc : List ℕ} {a b n i : ℕ} → Level doc a b n i → n ≤ i → value (part doc a n) ≡ value (part doc b n)
level-end {doc = doc} {a = a} {b = b} {n = n} {i = i} l h =
    omega (arith, l.is, value_none doc (b + i) (n - i) (omega arith), value_none doc (a + i) (n - i) (omega arith))

-- the next w bytes of both are the numbers x and y
pub record Facing (doc : List ℕ) (a b n i w x y : ℕ) : Type 0 where
  pub bytes : (k : ℕ) → get_or doc k 0 < 256
  pub within : i + w ≤ n
  pub first : a + n ≤ length doc
  pub second : b + n ≤ length doc
  pub x-is : x ≡ value (part doc (a + i) w)
  pub y-is : y ≡ value (part doc (b + i) w)
  pub level : Level doc a b n i

module _ {doc : List ℕ} {a b n i w x y : ℕ} (f : Facing doc a b n i w x y) where
  pub facing-swap : Facing doc b a n i w y x
  facing-swap = record {
    bytes = f.bytes;
    within = f.within;
    first = f.second;
    second = f.first;
    x-is = f.y-is;
    y-is = f.x-is;
    level = record { within = f.level.within; is = sym f.level.is };
  }

  split : (c : ℕ) → c + n ≤ length doc
      → value (part doc (c + i) (n - i)) ≡ value (part doc (c + i) w) * 256 ^ (n - (i + w)) + value (part doc (c + (i + w)) (n - (i + w)))
  split c l =
      let p : n - i ≡ w + (n - (i + w)) = omega (arith, f.within) in
      let q : c + (i + w) ≡ c + i + w = omega arith in
      rw (p, q) (value-parts doc w (n - (i + w)) (c + i) (omega (arith, l, f.within)))

  pub facing-less : x < y → value (part doc a n) < value (part doc b n)
  facing-less h =
      omega (
        arith,
        f.level.is,
        split a f.first,
        split b f.second,
        digit-less (value (part doc (a + i) w)) (value (part doc (b + i) w)) (256 ^ (n - (i + w)))
            (value (part doc (a + (i + w)) (n - (i + w)))) (value (part doc (b + (i + w)) (n - (i + w)))) (omega (arith, h, f.x-is, f.y-is))
            (value-below doc f.bytes (n - (i + w)) (a + (i + w)) (omega (arith, f.first, f.within))),
      )

  pub facing-next : x ≡ y → Level doc a b n (i + w)
  facing-next e =
      let same = ap (λ d. d * 256 ^ (n - (i + w))) (sym f.x-is ∙ e ∙ f.y-is) in
      record { within = f.within; is = omega (arith, f.level.is, split a f.first, split b f.second, same) }
