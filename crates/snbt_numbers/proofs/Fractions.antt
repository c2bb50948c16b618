-- A decimal read in one pass: a sign, digits, a point, digits, and the end or a suffix.
-- Assumes nothing.
use mathlib.Core.Path.{◌≡◌, refl, sym, ap, ap₂, ◌∙◌}
use mathlib.Core.List.{List, ◌++◌}
use mathlib.Core.Bool.{Bool, true, false, ◌||◌}
use Prim.Native.Nat.{ℕ, ◌+◌, ◌-◌, ◌^◌, ◌≤◌, ◌<◌, min}
use native.Mathlib.Nat.{le_trans, le_refl, pow-le-pow_right}
use native.Mathlib.Omega.{arith}
use borrow.Author.Tests.{le-leb, ne_eqb}
use lib.Dec.{eqb}
use lib.IntN.{ℤ, pos, ◌-ℤ◌}
use lib.ListN.{length, get_or}
use lib.Seq.{slice}
use Rattle.form.specs.Answer.{pick}
use Rattle.snbt_form.specs.Values.{signed, scaled}
use Rattle.snbt_form.specs.Numbers.{is_digit, is_point, has, negative, unsigned, digits, worth, decimal_of, decimal, real_number, decimal_number}
use Rattle.snbt_numbers.specs.Rows.{cap, digits_of, RunAt, HeadAt, value_in, ending_of}
use Rattle.snbt_numbers.specs.declared.runs.Row.{Row}
use Rattle.std.specs.Prelude.{Some}
use Rattle.snbt_numbers.specs.declared.decimals.Ending.{Ending}
use Rattle.snbt_numbers.specs.declared.decimals.Ending.TheVariants.{Float as EndsFloat, Double as EndsDouble, Digit as EndsDigit}
use Rattle.snbt_numbers.proofs.Slices.{slice_first}
use Rattle.snbt_numbers.proofs.Rows.{second-row}
use Rattle.snbt_numbers.proofs.Tokens.{sign-front, unsigned-part}
use Rattle.snbt_numbers.proofs.Firsts.{has-behind, first-is, first-lacks, is_x}
use Rattle.snbt_numbers.proofs.Powers.{down-rest}
use Rattle.snbt_numbers.proofs.Grammar.{with-point, ended, decimal-number}
use Rattle.snbt_numbers.proofs.OnePass.{ten-most, other, digits-lack, last-digit, run-no-point}

-- a row of few digits, counted
row-counted : (n v : ℕ) (l : List ℕ) → digits l ≡ true → v ≡ worth n l → v < 10 ^ 18 → Some v ≡ digits_of n l
row-counted n v l d e h = let small : v ≡ min v cap = omega arith in rw (d, ← e) (ap Some small)

-- the ending of a token whose last byte is a digit
ends-digit : (b : ℕ) → is_digit b ≡ true → EndsDigit ≡ ending_of b
ends-digit b d = simp (other b 102 d refl, other b 70 d refl, other b 100 d refl, other b 68 d refl, d)

-- behind the sign
sign_low : (b : Bool) (start : ℕ) → start ≤ pick b (start + 1) start
sign_low true start = omega arith
sign_low false start = omega arith

module _ {s : List ℕ} {start end : ℕ} {b : Bool} {v at : ℕ} (k : end ≤ length s) (head : HeadAt s start end b v at) where
  abbrev from : ℕ
  from = pick b (start + 1) start

  pub head-le : (start ≤ at) × (at ≤ end)
  head-le = (le_trans (sign_low b start) head.run.low, head.run.high)

  pub head-no-point : has is_point (slice start at s) ≡ false
  head-no-point = run-no-point (record { order = le_trans head-le.0 head-le.1; within = k; sign = head.sign; first = refl }) head.run

  -- at the point
  module _ (h : at < end) (p : get_or s at 0 ≡ 46) where
    pub has-point : has is_point (slice start end s) ≡ true
    unfolding has
    has-point =
        has-behind is_point start at end true s head-le.0 head-le.1 k head-no-point
        (ap (has is_point) (slice_first at end s h k) ∙ ap (λ (n : ℕ). eqb n 46 || has is_point (slice (at + 1) end s)) p)

    -- the digits behind the point have room
    pub more_room : (end ≤ at + 1 + 18) × (v < 10 ^ (18 - (end - (at + 1))))
    more_room =
        let m : 10 ^ (18 - (end - at)) ≤ 10 ^ (18 - (end - (at + 1))) = pow-le-pow_right {n = 10} (omega arith) (omega arith) in
        (omega (arith, head.room, head.run.low), le_trans head.run.small m)

    -- the digits behind it
    module _ {r : Row} (q : RunAt s v (at + 1) end r) (g : at + 1 < r.end) (room : length s < 2 ^ 63) where
      counted : Some r.value ≡ digits_of 0 (slice from at s ++ slice (at + 1) r.end s)
      counted =
          let first = row-counted 0 v (slice from at s) head.run.row head.run.is (ten-most v (18 - (end - at)) head.run.small (omega arith)) in
          row-counted v r.value (slice (at + 1) r.end s) q.row q.is (ten-most r.value (18 - (end - r.end)) q.small (omega arith))
          ∙ second-row v (slice from at s) (slice (at + 1) r.end s) first

      inner : (place : ℕ) → scaled b r.value (signed true (r.end - (at + 1))) place ≡ value_in b s from at r.end r.end place
      unfolding value_in
      inner place =
          let to = r.end in
          let n = to - (at + 1) in
          let down : signed true n ≡ pos 0 -ℤ pos n = let z : n - 0 ≡ n = omega arith in ap (signed true) (sym z) ∙ down-rest 0 n (omega arith) in
          rw (ne_eqb (at - from + n) 0 (λ e. omega arith), le-leb to to (le_refl to), ← counted) (ap (λ (p : ℤ). scaled b r.value p place) down)

      front : (place : ℕ) → scaled b r.value (signed true (r.end - (at + 1))) place ≡ decimal (slice start r.end s) place
      front place =
          let to = r.end in
          let high : to ≤ length s = le_trans q.high k in
          let low : start < to = omega (arith, head-le.0) in
          let sign : b ≡ negative (slice start to s) = head.sign ∙ sign-front start to end s low q.high k in
          let bytes : unsigned (slice start to s) ≡ slice from to s = unsigned-part start to from s (omega arith) high sign refl in
          inner place
          ∙ with-point b place
          (first-is 46 46 s from to at head.run.low (omega arith) high (digits-lack 46 46 refl refl (slice from at s) head.run.row) (is_x 46 46 (get_or s at 0) p))
          (first-lacks 101 69 s (at + 1) to q.low high (digits-lack 101 69 refl refl (slice (at + 1) to s) q.row))
          high room (omega arith)
          ∙ ap₂ (λ (x : Bool) (l : List ℕ). decimal_of x l place) sign (sym bytes)

      -- digits to the end
      pub to_end : r.end ≡ end → real_number false (scaled b r.value (signed true (r.end - (at + 1))) start) ≡ decimal_number (slice start end s) start
      to_end e =
          let last = last-digit (at + 1) end s (omega arith) k (ap (λ (n : ℕ). digits (slice (at + 1) n s)) (sym e) ∙ q.row) in
          ap (real_number false) (front start ∙ ap (λ (n : ℕ). decimal (slice start n s) start) e)
          ∙ decimal-number start end start EndsDigit s (omega (arith, head-le.0)) k (ends-digit (get_or s (end - 1) 0) last)

      -- digits and a letter
      module _ (w : end ≤ r.end + 1) (n : r.end ≡ end → ⊥) where
        to-letter : (x : Ending) → x ≡ ending_of (get_or s r.end 0) → ended x (slice start r.end s) (slice start end s) start ≡ decimal_number (slice start end s) start
        to-letter x q' =
            let e : r.end ≡ end - 1 = omega (arith, q.high, n) in
            ap (λ (m : ℕ). ended x (slice start m s) (slice start end s) start) e
            ∙ decimal-number start end start x s (omega (arith, head-le.0)) k (q' ∙ ap (λ (m : ℕ). ending_of (get_or s m 0)) e)

        pub to-float : EndsFloat ≡ ending_of (get_or s r.end 0)
            → real_number true (scaled b r.value (signed true (r.end - (at + 1))) start) ≡ decimal_number (slice start end s) start
        to-float x = ap (real_number true) (front start) ∙ to-letter EndsFloat x

        pub to-double : EndsDouble ≡ ending_of (get_or s r.end 0)
            → real_number false (scaled b r.value (signed true (r.end - (at + 1))) start) ≡ decimal_number (slice start end s) start
        to-double x = ap (real_number false) (front start) ∙ to-letter EndsDouble x
