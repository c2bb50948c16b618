-- The laws of sets: what is in those that the code makes, and that a set is known by what is in it.
-- Assumes nothing.
use Prim.Native.Nat.{ℕ, zero, suc, ◌+◌, ◌-◌, ◌*◌, ◌/◌, ◌%◌, ◌^◌, ◌≤◌, ◌<◌}
use mathlib.Core.Path.{◌≡◌, refl, sym, ap, subst, ◌∙◌}
use mathlib.Core.Bool.{Bool, true, false, not, ◌||◌, ◌&&◌}
use native.Mathlib.Omega.{arith}
use native.Mathlib.Decide.{ℕ_discrete}
use native.Mathlib.Nat.{one-mul, pow-suc, zero-div}
use lib.Arith.{bin_ind}
use lib.Count.{count_trailing_zeros, under}
use lib.Dec.{eqb, eqb-zero-suc, eqb-suc-zero, eqb-suc-suc}
use lib.Pow.{shr-shr, shl_exact}
use lib.Bits.{bit_and, bit_or, and_step, and_shr, or_step, or_shr}
use borrow.Author.Tests.{eqb-true, eqb-false, eq-eqb, ne_eqb, leb-false}
use Rattle.query_reach.specs.Sets.{has, Bits, Least, goes_on}
use Rattle.query_reach.proofs.Bools.{no_way}

-- ---- bit by bit

pub has-zero : (a : ℕ) → has a 0 ≡ eqb (a % 2) 1
unfolding has
has-zero a = let e : a / 1 ≡ a = omega arith in ap (λ (x : ℕ). eqb (x % 2) 1) e

pub has-suc : (a k : ℕ) → has a (suc k) ≡ has (a / 2) k
unfolding has
has-suc a k =
    let e : suc k ≡ 1 + k = omega arith in
    ap (λ (x : ℕ). eqb (a / 2 ^ x % 2) 1) e ∙ ap (λ (x : ℕ). eqb (x % 2) 1) (sym (shr-shr a 1 k))

pub has-none : (k : ℕ) → has 0 k ≡ false
unfolding has
has-none k = ne_eqb (0 / 2 ^ k % 2) 1 (λ e. omega (arith, zero-div (2 ^ k)))

-- The lowest bit, from what is in the set and back.
odd-in : (a : ℕ) → a % 2 ≡ 1 → has a 0 ≡ true
odd-in a e = has-zero a ∙ eq-eqb (a % 2) 1 e

even-out : (a : ℕ) → a % 2 ≡ 0 → has a 0 ≡ false
even-out a e = has-zero a ∙ ne_eqb (a % 2) 1 (λ x. omega arith)

in-odd : (a : ℕ) → has a 0 ≡ true → a % 2 ≡ 1
in-odd a e = eqb-true (a % 2) 1 (sym (has-zero a) ∙ e)

out-even : (a : ℕ) → has a 0 ≡ false → a % 2 ≡ 0
out-even a e = let n = eqb-false (a % 2) 1 (sym (has-zero a) ∙ e) in omega (arith, n)

-- ---- a set is known by what is in it

none-zero : (a : ℕ) → ((k : ℕ) → has a k ≡ false) → a ≡ 0
none-zero = bin_ind (λ (a : ℕ). ((k : ℕ) → has a k ≡ false) → a ≡ 0) (λ h. refl) (λ a ih h. step a ih h)
  where
    step : (a : ℕ) → (((k : ℕ) → has (a / 2) k ≡ false) → a / 2 ≡ 0) → ((k : ℕ) → has a k ≡ false) → a ≡ 0
    step a ih h =
        let x = ih (λ k. sym (has-suc a k) ∙ h (suc k)) in
        let y = out-even a (h 0) in
        omega arith

same_bits : (a b : ℕ) → ((k : ℕ) → has a k ≡ has b k) → a ≡ b
same_bits = bin_ind (λ (a : ℕ). (b : ℕ) → ((k : ℕ) → has a k ≡ has b k) → a ≡ b) (λ b h. sym (none-zero b (λ k. sym (h k) ∙ has-none k))) (λ a ih b h. step a ih b h)
  where
    step : (a : ℕ) → ((b : ℕ) → ((k : ℕ) → has (a / 2) k ≡ has b k) → a / 2 ≡ b) → (b : ℕ) → ((k : ℕ) → has a k ≡ has b k) → a ≡ b
    step a ih b h =
        let x : a / 2 ≡ b / 2 = ih (b / 2) (λ k. sym (has-suc a k) ∙ h (suc k) ∙ has-suc b k) in
        let y : a % 2 ≡ b % 2 = low (has a 0) refl in
        omega arith
      where
        low : (x : Bool) → has a 0 ≡ x → a % 2 ≡ b % 2
        low true e = in-odd a e ∙ sym (in-odd b (sym (h 0) ∙ e))
        low false e = out-even a e ∙ sym (out-even b (sym (h 0) ∙ e))

-- Two sets that are what g says are one.
pub one_set : {g : ℕ → Bool} {a b : ℕ} → Bits g a → Bits g b → a ≡ b
one_set {g} {a} {b} x y = same_bits a b (λ k. x.is k ∙ sym (y.is k))

-- A word that is not 0 has a number in it.
pub record Member (a : ℕ) : Type 0 where
  pub number : ℕ
  pub is_in : has a number ≡ true

pub some-bit : (a : ℕ) → (a ≡ 0 → ⊥) → Member a
some-bit = bin_ind (λ (a : ℕ). (a ≡ 0 → ⊥) → Member a) (λ n. absurd (n refl)) (λ a ih n. step a ih n (has a 0) refl)
  where
    step : (a : ℕ) → ((a / 2 ≡ 0 → ⊥) → Member (a / 2)) → (a ≡ 0 → ⊥) → (b : Bool) → has a 0 ≡ b → Member a
    step a ih n true e = record { number = 0; is_in = e }
    step a ih n false e =
        let z = out-even a e in
        let m = ih (λ x. n (omega arith)) in
        record { number = suc m.number; is_in = has-suc a m.number ∙ m.is_in }

-- ---- what is in the sets that the code makes

module _ (x y : ℕ) where
  or-bit : eqb (bit_or x y % 2) 1 ≡ (eqb (x % 2) 1 || eqb (y % 2) 1)
  or-bit = go (ℕ_discrete (x % 2) 1) (ℕ_discrete (y % 2) 1)
    where
      go : Dec (x % 2 ≡ 1) → Dec (y % 2 ≡ 1) → eqb (bit_or x y % 2) 1 ≡ (eqb (x % 2) 1 || eqb (y % 2) 1)
      go (yes a) b = rw (eq-eqb (bit_or x y % 2) 1 (omega (arith, or_step x y)), eq-eqb (x % 2) 1 a)
      go (no a) (yes b) = rw (eq-eqb (bit_or x y % 2) 1 (omega (arith, or_step x y)), ne_eqb (x % 2) 1 a, eq-eqb (y % 2) 1 b)
      go (no a) (no b) = rw (ne_eqb (bit_or x y % 2) 1 (λ e. omega (arith, or_step x y)), ne_eqb (x % 2) 1 a, ne_eqb (y % 2) 1 b)

  and-bit : eqb (bit_and x y % 2) 1 ≡ (eqb (x % 2) 1 && eqb (y % 2) 1)
  and-bit = go (ℕ_discrete (x % 2) 1) (ℕ_discrete (y % 2) 1)
    where
      go : Dec (x % 2 ≡ 1) → Dec (y % 2 ≡ 1) → eqb (bit_and x y % 2) 1 ≡ (eqb (x % 2) 1 && eqb (y % 2) 1)
      go (yes a) (yes b) = rw (eq-eqb (bit_and x y % 2) 1 (omega (arith, and_step x y)), eq-eqb (x % 2) 1 a, eq-eqb (y % 2) 1 b)
      go (yes a) (no b) = rw (ne_eqb (bit_and x y % 2) 1 (λ e. omega (arith, and_step x y)), eq-eqb (x % 2) 1 a, ne_eqb (y % 2) 1 b)
      go (no a) b = rw (ne_eqb (bit_and x y % 2) 1 (λ e. omega (arith, and_step x y)), ne_eqb (x % 2) 1 a)

-- Both together, and what is in both.
pub has-or : (a b k : ℕ) → has (bit_or a b) k ≡ (has a k || has b k)
unfolding has
has-or a b k = ap (λ (x : ℕ). eqb (x % 2) 1) (or_shr a b k) ∙ or-bit (a / 2 ^ k) (b / 2 ^ k)

pub has-and : (a b k : ℕ) → has (bit_and a b) k ≡ (has a k && has b k)
unfolding has
has-and a b k = ap (λ (x : ℕ). eqb (x % 2) 1) (and_shr a b k) ∙ and-bit (a / 2 ^ k) (b / 2 ^ k)

-- One number.
pub has_one : (s k : ℕ) → has (2 ^ s) k ≡ eqb k s
has_one zero zero = odd-in 1 refl
has_one zero (suc k) = has-suc 1 k ∙ has-none k ∙ sym (eqb-suc-zero k)
has_one (suc s) zero = even-out (2 ^ suc s) (omega (arith, pow-suc 2 s)) ∙ sym (eqb-zero-suc s)
has_one (suc s) (suc k) =
    let e : 2 ^ suc s / 2 ≡ 2 ^ s = omega (arith, pow-suc 2 s) in
    has-suc (2 ^ suc s) k ∙ ap (λ (x : ℕ). has x k) e ∙ has_one s k ∙ sym (eqb-suc-suc k s)

-- A shift by s, as the machine has it.
pub one_shl : (s : ℕ) → s ≤ 16 → 1 * 2 ^ s % 2 ^ 32 ≡ 2 ^ s
one_shl s h = shl_exact {a = 1} 1 s 32 (omega arith) (omega arith) ∙ one-mul (2 ^ s)

-- The steps of a set, without the end.
pub steps-end : (a : ℕ) → has (a / 2 * 2) 0 ≡ false
steps-end a = even-out (a / 2 * 2) (omega arith)

pub steps-step : (a k : ℕ) → has (a / 2 * 2) (suc k) ≡ has a (suc k)
steps-step a k = let e : a / 2 * 2 / 2 ≡ a / 2 = omega arith in has-suc (a / 2 * 2) k ∙ ap (λ (x : ℕ). has x k) e ∙ sym (has-suc a k)

-- Where no path can go on there is none.
pub off-steps : (a : ℕ) → goes_on a ≡ false → (k : ℕ) → has a (suc k) ≡ false
off-steps a e k =
    let lt = leb-false 2 a e in
    let z : a / 2 ≡ 0 = omega arith in
    has-suc a k ∙ ap (λ (x : ℕ). has x k) z ∙ has-none k

-- ---- a set within another, and the rest of it

abbrev pub Within : ℕ → ℕ → Type 0
Within b a = (k : ℕ) → has b k ≡ true → has a k ≡ true

module _ (a b : ℕ) (w : Within b a) where
  within-half : Within (b / 2) (a / 2)
  within-half k e = sym (has-suc a k) ∙ w (suc k) (has-suc b k ∙ e)

  within-odd : b % 2 ≤ a % 2
  within-odd = go (has b 0) refl
    where
      go : (x : Bool) → has b 0 ≡ x → b % 2 ≤ a % 2
      go true e = omega (arith, in-odd a (w 0 e))
      go false e = omega (arith, out-even b e)

pub within-le : (b a : ℕ) → Within b a → b ≤ a
within-le = bin_ind (λ (b : ℕ). (a : ℕ) → Within b a → b ≤ a) (λ a w. omega arith) (λ b ih a w. step b ih a w)
  where
    step : (b : ℕ) → ((a : ℕ) → Within (b / 2) a → b / 2 ≤ a) → (a : ℕ) → Within b a → b ≤ a
    step b ih a w =
        let x = ih (a / 2) (within-half a b w) in
        let y = within-odd a b w in
        omega arith

pub has_rest : (k a b : ℕ) → Within b a → has (a - b) k ≡ (has a k && not (has b k))
has_rest zero a b w = go (has a 0) refl (has b 0) refl
  where
    half : b / 2 ≤ a / 2
    half = within-le (b / 2) (a / 2) (within-half a b w)

    go : (x : Bool) → has a 0 ≡ x → (y : Bool) → has b 0 ≡ y → has (a - b) 0 ≡ (has a 0 && not (has b 0))
    go true e true f = let x = in-odd a e in let y = in-odd b f in let h = half in rw (e, f) (even-out (a - b) (omega arith))
    go true e false f = let x = in-odd a e in let y = out-even b f in let h = half in rw (e, f) (odd-in (a - b) (omega arith))
    go false e true f = no_way (has a 0) (w 0 f) e
    go false e false f = let x = out-even a e in let y = out-even b f in let h = half in rw e (even-out (a - b) (omega arith))
has_rest (suc k) a b w =
    let h = within-le (b / 2) (a / 2) (within-half a b w) in
    let o = within-odd a b w in
    let e : (a - b) / 2 ≡ a / 2 - b / 2 = omega arith in
    rw (has-suc (a - b) k, e, has-suc a k, has-suc b k) (has_rest k (a / 2) (b / 2) (within-half a b w))

-- A number of a set is within it.
pub within-one : (a s : ℕ) → has a s ≡ true → Within (2 ^ s) a
within-one a s e k h = subst (λ (j : ℕ). has a j ≡ true) (sym (eqb-true k s (sym (has_one s k) ∙ h))) e

-- ---- the least number

pub least-is : (d a : ℕ) → (a ≡ 0 → ⊥) → a < 2 ^ d → Least a (count_trailing_zeros d a)
unfolding count_trailing_zeros
least-is zero a n h = absurd (n (omega arith))
least-is (suc d) a n h = go (λ x. least-is d (a / 2) x (omega (arith, pow-suc 2 d))) (has a 0) refl
  where
    below : has a 0 ≡ false → Least (a / 2) (count_trailing_zeros d (a / 2)) → (j : ℕ) → j < suc (count_trailing_zeros d (a / 2)) → has a j ≡ false
    below e v zero l = e
    below e v (suc j) l = has-suc a j ∙ v.none j (omega arith)

    go : ((a / 2 ≡ 0 → ⊥) → Least (a / 2) (count_trailing_zeros d (a / 2))) → (x : Bool) → has a 0 ≡ x → Least a (under (a % 2) (count_trailing_zeros d (a / 2)))
    go ih true e = rw (in-odd a e) (record { is_in = e; none = λ j l. absurd (let z : j < 0 = l in omega arith) })
    go ih false e =
        let z = out-even a e in
        let v = ih (λ x. n (omega arith)) in
        rw z (record { is_in = has-suc a (count_trailing_zeros d (a / 2)) ∙ v.is_in; none = λ j l. below e v j l })
