-- Digits read in one pass: a row with one byte more, a row has no point, and the tokens that are such a row.
-- Assumes nothing.
use mathlib.Core.Path.{◌≡◌, refl, sym, ap, ap₂, ◌∙◌}
use mathlib.Core.List.{List, [], ◌∷◌, ◌++◌}
use mathlib.Core.Logic.{⊎_elim, ◌⊎◌, inl, inr}
use mathlib.Core.Bool.{Bool, true, false, not, ◌&&◌, ◌||◌}
use Prim.Native.Nat.{ℕ, suc, ◌+◌, ◌-◌, ◌*◌, ◌^◌, ◌≤◌, ◌<◌}
use native.Mathlib.Nat.{le_trans, pow-le-pow_right}
use native.Mathlib.Omega.{arith}
use borrow.Author.Tests.{le-leb, ne_eqb}
use lib.Dec.{leb, eqb}
use lib.IntN.{ℤ}
use lib.ListN.{length, get_or, take, drop}
use lib.Seq.{slice}
use lib.Ieee.{binary64, of_int}
use Rattle.form.specs.Answer.{got, pick}
use Rattle.form.proofs.Picks.{and_left, and_right}
use Rattle.snbt_form.specs.Values.{signed}
use Rattle.snbt_form.specs.Numbers.{byte, short, int, long, float, double, is_digit, is_point, is_letter, is_suffix, has, before, negative, digits, worth, suffixed, number}
use Rattle.snbt_numbers.specs.Rows.{whole_digits, either, not_digit, RunAt}
use Rattle.snbt_numbers.specs.declared.runs.Row.{Row}
use Rattle.std.specs.Prelude.{Some}
use Rattle.snbt_numbers.proofs.Slices.{slice-none, slice_first, slice-one, slice-last}
use Rattle.snbt_numbers.proofs.Rows.{true-false, digits_append, worth-append, whole_is}
use Rattle.snbt_numbers.proofs.Firsts.{has-behind, place_found, place-lacks, the-point}
use Rattle.snbt_numbers.proofs.Tokens.{sign-front, unsigned-le, some_bytes, whole-number}
use Rattle.snbt_numbers.proofs.Grammar.{number-without}

-- ---- tests of a byte

-- a byte that passes a test is none that fails it
not-it : (t : ℕ → Bool) (b k : ℕ) → t b ≡ true → t k ≡ false → eqb b k ≡ false
not-it t b k p q = ne_eqb b k (λ (e : b ≡ k). true-false (sym p ∙ ap t e ∙ q))

pub other : (b k : ℕ) → is_digit b ≡ true → is_digit k ≡ false → eqb b k ≡ false
other b k d q = not-it is_digit b k d q

-- a byte that is neither of a suffix's two letters, for each of the suffixes
pub no-suffix : (b : ℕ) → ((b ≡ 66) ⊎ (b ≡ 98) → ⊥) → ((b ≡ 83) ⊎ (b ≡ 115) → ⊥) → ((b ≡ 76) ⊎ (b ≡ 108) → ⊥) → ((b ≡ 70) ⊎ (b ≡ 102) → ⊥) → ((b ≡ 68) ⊎ (b ≡ 100) → ⊥)
    → is_suffix b ≡ false
no-suffix b n₁ n₂ n₃ n₄ n₅ =
    simp (
      ne_eqb b 98 (λ e. n₁ (inr e)),
      ne_eqb b 66 (λ e. n₁ (inl e)),
      ne_eqb b 115 (λ e. n₂ (inr e)),
      ne_eqb b 83 (λ e. n₂ (inl e)),
      ne_eqb b 108 (λ e. n₃ (inr e)),
      ne_eqb b 76 (λ e. n₃ (inl e)),
      ne_eqb b 102 (λ e. n₄ (inr e)),
      ne_eqb b 70 (λ e. n₄ (inl e)),
      ne_eqb b 100 (λ e. n₅ (inr e)),
      ne_eqb b 68 (λ e. n₅ (inl e)),
    )

digit-no-suffix : (b : ℕ) → is_digit b ≡ true → is_suffix b ≡ false
digit-no-suffix b d = no-suffix b (neither refl refl) (neither refl refl) (neither refl refl) (neither refl refl) (neither refl refl)
  where
    neither : {j k : ℕ} → is_digit j ≡ false → is_digit k ≡ false → (b ≡ j) ⊎ (b ≡ k) → ⊥
    neither p q = ⊎_elim (λ e. true-false (sym d ∙ ap is_digit e ∙ p)) (λ e. true-false (sym d ∙ ap is_digit e ∙ q))

-- a byte that is no suffix makes an int
pub plain : (b : ℕ) (z : ℤ) → is_suffix b ≡ false → suffixed b z ≡ int z
plain b z = go (is_letter 98 b) (is_letter 115 b) (is_letter 108 b) (is_letter 102 b) (is_letter 100 b)
  where
    go : (v w x y u : Bool) → (v || (w || (x || (y || u)))) ≡ false
        → pick v (byte z) (pick w (short z) (pick x (long z) (pick y (float (of_int binary64 z)) (pick u (double (of_int binary64 z)) (int z))))) ≡ int z
    go true w x y u e = true-false e
    go false true x y u e = true-false e
    go false false true y u e = true-false e
    go false false false true u e = true-false e
    go false false false false true e = true-false e
    go false false false false false e = refl

-- ---- a row

-- one digit more
pub row_more : (first at i v : ℕ) (s : List ℕ) → at ≤ i → i < length s → is_digit (get_or s i 0) ≡ true → digits (slice at i s) ≡ true → v ≡ worth first (slice at i s)
    → (digits (slice at (i + 1) s) ≡ true) × (v * 10 + (get_or s i 0 - 48) ≡ worth first (slice at (i + 1) s))
unfolding digits worth
row_more first at i v s h k d r e =
    let b = get_or s i 0 in
    let l = slice-last at i s h k in (
      ap digits l ∙ digits_append (slice at i s) (b ∷ []) ∙ ap₂ (λ (x y : Bool). x && (y && true)) r d,
      ap (λ (x : ℕ). x * 10 + (b - 48)) e ∙ sym (worth-append first (slice at i s) (b ∷ [])) ∙ sym (ap (worth first) l),
    )

-- no byte yet
pub row-none : (first at : ℕ) (s : List ℕ) → (digits (slice at at s) ≡ true) × (first ≡ worth first (slice at at s))
unfolding digits worth
row-none first at s = let n : slice at at s ≡ [] = slice-none at at s (omega arith) in (ap digits n, sym (ap (worth first) n))

pub ten-more : (n d k : ℕ) → n < 10 ^ k → d ≤ 9 → n * 10 + d < 10 ^ suc k
ten-more n d k h g = omega arith

-- eighteen digits at most
pub ten-most : (n k : ℕ) → n < 10 ^ k → k ≤ 18 → n < 10 ^ 18
ten-most n k h g = let p : 10 ^ k ≤ 10 ^ 18 = pow-le-pow_right {n = 10} (omega arith) g in omega arith

in-range : (b : Bool) (n : ℕ) → n < 10 ^ 18 → leb n (pick b (2 ^ 63) (2 ^ 63 - 1)) ≡ true
in-range true n h = le-leb n (2 ^ 63) (omega arith)
in-range false n h = le-leb n (2 ^ 63 - 1) (omega arith)

-- where a row ends: at a byte that is no digit, and at the last place
digits-only : (l : List ℕ) → digits l ≡ true → has not_digit l ≡ false
unfolding digits has
digits-only [] e = refl
digits-only (b ∷ l) e = ap₂ (λ (x y : Bool). not x || y) (and_left (is_digit b) (digits l) e) (digits-only l (and_right (is_digit b) (digits l) e))

pub row-stops : (s : List ℕ) (at to i : ℕ) → at ≤ i → i < to → to ≤ length s → digits (slice at i s) ≡ true → is_digit (get_or s i 0) ≡ false → i ≡ at + length (before not_digit (slice at to s))
row-stops s at to i l h k d e = place_found not_digit s at to i l h k (digits-only (slice at i s) d) (ap not e)

pub row-whole : (s : List ℕ) (at to i : ℕ) → at ≤ i → i ≡ to → to ≤ length s → digits (slice at i s) ≡ true → i ≡ at + length (before not_digit (slice at to s))
row-whole s at to i l q k d = q ∙ place-lacks not_digit s at to (omega arith) k (digits-only (slice at to s) (ap (λ (n : ℕ). digits (slice at n s)) (sym q) ∙ d))

-- digits are none of two bytes that are none
pub digits-lack : (x y : ℕ) → is_digit x ≡ false → is_digit y ≡ false → (l : List ℕ) → digits l ≡ true → has (either x y) l ≡ false
unfolding digits has
digits-lack x y nx ny [] e = refl
digits-lack x y nx ny (b ∷ l) e =
    let d = and_left (is_digit b) (digits l) e in
    ap₂ ◌||◌ (ap₂ ◌||◌ (other b x d nx) (other b y d ny)) (digits-lack x y nx ny l (and_right (is_digit b) (digits l) e))

digits-no-point : (l : List ℕ) → digits l ≡ true → has is_point l ≡ false
digits-no-point l e = ap (λ (t : ℕ → Bool). has t l) (sym the-point) ∙ digits-lack 46 46 refl refl l e

pub none-no-point : (f : ℕ) (s : List ℕ) → has is_point (slice f f s) ≡ false
unfolding has
none-no-point f s = ap (has is_point) (slice-none f f s (omega arith))

pub last-digit : (f t : ℕ) (s : List ℕ) → f < t → t ≤ length s → digits (slice f t s) ≡ true → is_digit (get_or s (t - 1) 0) ≡ true
unfolding digits
last-digit f t s h k d =
    let b = get_or s (t - 1) 0 in
    let front = slice f (t - 1) s in
    let n : t - 1 + 1 ≡ t = omega arith in
    let l : slice f t s ≡ front ++ (b ∷ []) = sym (ap (λ (x : ℕ). slice f x s) n) ∙ slice-last f (t - 1) s (omega arith) (omega arith) in
    let e : (digits front && (is_digit b && true)) ≡ true = sym (digits_append front (b ∷ [])) ∙ sym (ap digits l) ∙ d in
    and_left (is_digit b) true (and_right (digits front) (is_digit b && true) e)

-- ---- a token that starts with a row

-- A token from start up to end with the sign b, and the place behind its sign.
pub record Begins (s : List ℕ) (start end from : ℕ) (b : Bool) : Type 0 where
  pub order : start ≤ end
  pub within : end ≤ length s
  pub sign : b ≡ negative (slice start end s)
  pub first : from ≡ pick b (start + 1) start

module _ {s : List ℕ} {start end from : ℕ} {b : Bool} (t : Begins s start end from b) where
  pub from_le : (start ≤ from) × (from ≤ end)
  from_le = (low b t.first, unsigned-le start end from s t.order t.sign t.first)
    where
      low : (x : Bool) → from ≡ pick x (start + 1) start → start ≤ from
      low true e = omega arith
      low false e = omega arith

  -- the sign is no point
  sign-no-point : has is_point (slice start from s) ≡ false
  unfolding has
  sign-no-point = go b t.sign t.first
    where
      go : (x : Bool) → x ≡ negative (slice start end s) → from ≡ pick x (start + 1) start → has is_point (slice start from s) ≡ false
      go false q e = ap (λ (l : List ℕ). has is_point l) (slice-none start from s (omega arith))
      go true q e =
          let g : start < end = omega (arith, from_le.1) in
          let m : eqb (get_or s start 0) 45 ≡ true = sym (q ∙ ap negative (slice_first start end s g t.within)) in
          ap (λ (n : ℕ). has is_point (slice start n s)) e
          ∙ ap (has is_point) (slice-one start s (omega (arith, t.within)))
          ∙ ap (λ (x : Bool). x || false) (not-it (λ (n : ℕ). eqb n 45) (get_or s start 0) 46 m refl)

  -- a sign and digits from the start on
  module _ {r : Row} (p : RunAt s 0 from end r) where
    pub run-no-point : has is_point (slice start r.end s) ≡ false
    run-no-point =
        has-behind is_point start from r.end false s from_le.0 p.low (le_trans p.high t.within) sign-no-point
        (digits-no-point (slice from r.end s) p.row)

    pub run_small : leb r.value (pick b (2 ^ 63) (2 ^ 63 - 1)) ≡ true
    run_small = in-range b r.value (ten-most r.value (18 - (end - r.end)) p.small (omega arith))

    run-whole : from < r.end → Some r.value ≡ whole_digits b (slice from r.end s)
    run-whole g =
        whole_is b (slice from r.end s) r.value (some_bytes from r.end s g (le_trans p.high t.within)) p.row
        (ap (λ (n : ℕ). leb n (pick b (2 ^ 63) (2 ^ 63 - 1))) (sym p.is) ∙ run_small) p.is

    -- digits to the end are an int
    pub short-int : from < r.end → r.end ≡ end → got (int (signed b r.value)) ≡ number (take (end - start) (drop start s)) start
    short-int g q =
        let last = get_or s (end - 1) 0 in
        let k = t.within in
        let some : from < end = omega arith in
        let digit : is_digit last ≡ true = last-digit from end s some k (ap (λ (n : ℕ). digits (slice from n s)) (sym q) ∙ p.row) in
        ap got (sym (plain last (signed b r.value) (digit-no-suffix last digit)))
        ∙ whole-number start end end from start b (Some r.value) s (omega (arith, from_le.0)) k
        (ap (λ (x : Bool). pick x (end - 1) end) (sym (digit-no-suffix last digit))) t.sign t.first
        (run-whole g ∙ ap (λ (n : ℕ). whole_digits b (slice from n s)) q)
        ∙ number-without start end start s t.order k (ap (λ (n : ℕ). has is_point (slice start n s)) (sym q) ∙ run-no-point)

    -- digits and a suffix
    pub short-suffixed : from < r.end → r.end + 1 ≡ end → is_suffix (get_or s r.end 0) ≡ true
        → got (suffixed (get_or s r.end 0) (signed b r.value)) ≡ number (take (end - start) (drop start s)) start
    unfolding has
    short-suffixed g q x =
        let to = r.end in
        let k = t.within in
        let e : to ≡ end - 1 = omega arith in
        let low : start < to = omega (arith, from_le.0) in
        let room : to < length s = omega arith in
        let alone : has is_point (slice to end s) ≡ false =
        ap (λ (n : ℕ). has is_point (slice to n s)) (sym q) ∙ ap (has is_point) (slice-one to s room) ∙ ap (λ (y : Bool). y || false) (not-it is_suffix (get_or s to 0) 46 x refl) in
        ap (λ (n : ℕ). got (suffixed (get_or s n 0) (signed b r.value))) e
        ∙ whole-number start end to from start b (Some r.value) s (omega arith) k
        (e ∙ ap (λ (y : Bool). pick y (end - 1) end) (sym (ap (λ (n : ℕ). is_suffix (get_or s n 0)) (sym e) ∙ x))) (t.sign ∙ sign-front start to end s low (omega arith) k) t.first (run-whole g)
        ∙ number-without start end start s t.order k (has-behind is_point start to end false s (omega arith) (omega arith) k run-no-point alone)
