-- A decimal by the places of its point and its exponent's letter is the decimal of the definition.
-- Assumes nothing.
use mathlib.Core.Path.{◌≡◌, refl, sym, ap, ap₂, ◌∙◌}
use mathlib.Core.List.{List, [], ◌∷◌, ◌++◌}
use mathlib.Core.Logic.{⊎_elim}
use mathlib.Core.Bool.{Bool, true, false, not, ◌&&◌}
use Prim.Native.Nat.{ℕ, suc, ◌+◌, ◌-◌, ◌^◌, ◌≤◌, ◌<◌, min}
use native.Mathlib.Nat.{le_trans}
use native.Mathlib.Omega.{arith}
use borrow.Author.Tests.{le-leb, lt-leb, ne_eqb}
use lib.Dec.{leb, eqb}
use lib.IntN.{ℤ, pos, ◌-ℤ◌}
use lib.ListN.{length, length-append, get_or, take, drop}
use lib.Seq.{slice, length-slice}
use lib.Ieee.{Float}
use Rattle.form.specs.Answer.{Out, got, no, guard, pick, bad_number, ◌>>=◌, ◌>>◌}
use Rattle.form.proofs.Picks.{lt-or}
use Rattle.snbt_form.specs.Values.{signed, scaled}
use Rattle.snbt_form.specs.Numbers.{Number, is_digit, is_point, is_letter, empty, has, before, behind, digits, worth, whole_number, power, exponent, decimal_by, decimal_of, decimal, real_number}
use Rattle.snbt_form.specs.Numbers.{decimal_number, number}
use Rattle.snbt_numbers.specs.Rows.{cap, digits_of, either, FirstAt, powered, counted, power_of, exponent_of, combine, value_in, ending_of}
use Rattle.std.specs.Prelude.{Option, Some, None}
use Rattle.snbt_numbers.specs.declared.decimals.Exponent.{Exponent}
use Rattle.snbt_numbers.specs.declared.decimals.Ending.{Ending}
use Rattle.snbt_numbers.specs.declared.decimals.Ending.TheVariants.{Float as EndsFloat, Double as EndsDouble, Digit as EndsDigit, Other as EndsOther}
use Rattle.snbt_numbers.proofs.Slices.{slice-none, slice-from}
use Rattle.snbt_numbers.proofs.Tokens.{last_byte, but_last_lem}
use Rattle.snbt_numbers.proofs.Firsts.{has-behind, part-before, part-behind, part-has, part-lacks, the-point}
use Rattle.snbt_numbers.proofs.Powers.{digits-capped, exponent-capped}

-- ---- an exponent that was counted gives the definition's value

module _ (s : Bool) (w n place : ℕ) (small : n < 2 ^ 63) where
  abbrev valued : ℤ → Out Float
  valued e = scaled s w (e -ℤ pos n) place

  power-same : (d : Bool) (l : List ℕ) → combine s n (Some w) (power_of d l) place ≡ (power d l place >>= valued)
  power-same d l = go (empty l) (digits l)
    where
      go : (x y : Bool) → combine s n (Some w) (pick x None (counted d (pick y (Some (min (worth 0 l) cap)) None))) place
          ≡ ((guard (not x && y) bad_number place >> got (signed d (worth 0 l))) >>= valued)
      go true y = refl
      go false true = exponent-capped s w d (worth 0 l) n place small
      go false false = refl

  exponent_same : (l : List ℕ) → combine s n (Some w) (exponent_of l) place ≡ (exponent l place >>= valued)
  exponent_same [] = refl
  exponent_same (b ∷ l) = go (eqb b 45) (eqb b 43)
    where
      go : (x y : Bool) → combine s n (Some w) (pick x (power_of true l) (pick y (power_of false l) (power_of false (b ∷ l)))) place
          ≡ (pick x (power true l place) (pick y (power false l place) (power false (b ∷ l) place)) >>= valued)
      go true y = power-same true l
      go false true = power-same false l
      go false false = power-same false (b ∷ l)

  -- with a letter, or without
  either_same : (x : Bool) (l : List ℕ) → combine s n (Some w) (pick (not x) (Some (powered false 0)) (exponent_of l)) place ≡ (pick x (exponent l place) (got (pos 0)) >>= valued)
  either_same true l = exponent_same l
  either_same false l = refl

-- digits that were counted
counted_same : (s : Bool) (w n place : ℕ) (x : Option Exponent) → combine s n (Some (min w cap)) x place ≡ combine s n (Some w) x place
counted_same s w n place None = refl
counted_same s w n place (Some x) = digits-capped s w (signed x.down x.e -ℤ pos n) place

-- ---- the digits around the point

empty-length : (l : List ℕ) → empty l ≡ eqb (length l) 0
empty-length [] = refl
empty-length (b ∷ l) = sym (ne_eqb (suc (length l)) 0 (λ e. omega arith))

-- the digits a, b and the exponent behind them, as the code has them and as the definition has them
rows_same : (s : Bool) (a b l : List ℕ) (h : Bool) (n place : ℕ) → n ≡ length b → n < 2 ^ 63
    → pick (empty (a ++ b)) (no bad_number place) (combine s n (digits_of 0 (a ++ b)) (pick (not h) (Some (powered false 0)) (exponent_of l)) place)
    ≡ decimal_by s a b (pick h (exponent l place) (got (pos 0))) place
rows_same s a b l h n place e g = go (empty (a ++ b)) (digits (a ++ b))
  where
    go : (x y : Bool) → pick x (no bad_number place) (combine s n (pick y (Some (min (worth 0 (a ++ b)) cap)) None) (pick (not h) (Some (powered false 0)) (exponent_of l)) place)
        ≡ (guard (not x && y) bad_number place >> (pick h (exponent l place) (got (pos 0)) >>= (λ (z : ℤ). scaled s (worth 0 (a ++ b)) (z -ℤ pos (length b)) place)))
    go true y = refl
    go false true =
        counted_same s (worth 0 (a ++ b)) n place (pick (not h) (Some (powered false 0)) (exponent_of l))
        ∙ either_same s (worth 0 (a ++ b)) n place g h l
        ∙ rw e refl
    go false false = refl

pub no-point : (s : Bool) {t : List ℕ} {from to point : ℕ} (place : ℕ) → FirstAt 46 46 t from to point → to ≤ length t → to ≤ point
    → no bad_number place ≡ decimal_of s (slice from to t) place
unfolding decimal_of
no-point s {t} {from} {to} place f k h = rw (ap (λ (p : ℕ → Bool). has p (slice from to t)) (sym the-point) ∙ part-lacks f k h) refl

pub with-point : (s : Bool) {t : List ℕ} {from to point ex : ℕ} (place : ℕ) → FirstAt 46 46 t from to point → FirstAt 101 69 t (point + 1) to ex → to ≤ length t → length t < 2 ^ 63 → point < to
    → value_in s t from point ex to place ≡ decimal_of s (slice from to t) place
unfolding decimal_of value_in
with-point s {t} {from} {to} {point} {ex} place f g k room h =
    let l = slice from to t in
    let a = slice from point t in
    let b = slice (point + 1) ex t in
    let n = ex - (point + 1) in
    let whole : a ≡ before is_point l = part-before f k ∙ ap (λ (p : ℕ → Bool). before p l) the-point in
    let rest : slice (point + 1) to t ≡ behind is_point l = part-behind f k ∙ ap (λ (p : ℕ → Bool). behind p l) the-point in
    let q = behind is_point l in
    let fraction : b ≡ before (is_letter 101) q = part-before g k ∙ ap (before (is_letter 101)) rest in
    let tail : slice (ex + 1) to t ≡ behind (is_letter 101) q = part-behind g k ∙ ap (behind (is_letter 101)) rest in
    let ex-le : ex ≤ length t = le_trans g.high k in
    let point-le : point ≤ length t = le_trans f.high k in
    let none : eqb (point - from + n) 0 ≡ empty (a ++ b) = sym
    (empty-length (a ++ b) ∙ ap (λ (m : ℕ). eqb m 0) (length-append a b ∙ ap₂ ◌+◌ (length-slice from point t point-le) (length-slice (point + 1) ex t ex-le))) in
    let letter : leb to ex ≡ not (has (is_letter 101) q) = tested (has (is_letter 101) q) (λ (z : ex < to). ap (has (is_letter 101)) (sym rest) ∙ part-has g k z)
    (λ (z : to ≤ ex). ap (has (is_letter 101)) (sym rest) ∙ part-lacks g k z) in
    let point-is : has is_point l ≡ true = ap (λ (p : ℕ → Bool). has p l) (sym the-point) ∙ part-has f k h in
    rw (none, letter, point-is, ← whole, ← fraction, ← tail)
    (rows_same s a b (slice (ex + 1) to t) (has (is_letter 101) q) n place (sym (length-slice (point + 1) ex t ex-le)) (omega arith))
  where
    tested : (b : Bool) → (ex < to → b ≡ true) → (to ≤ ex → b ≡ false) → leb to ex ≡ not b
    tested b y z = ⊎_elim (λ q. lt-leb to ex q ∙ ap not (sym (y q))) (λ q. le-leb to ex q ∙ ap not (sym (z q))) (lt-or ex to)

-- ---- a token with a point, by its ending

-- the answer by the ending, the bytes without the last one, and all of them
abbrev pub ended : Ending → List ℕ → List ℕ → ℕ → Out Number
ended EndsFloat front l place = real_number true (decimal front place)
ended EndsDouble front l place = real_number false (decimal front place)
ended EndsDigit front l place = real_number false (decimal l place)
ended EndsOther front l place = no bad_number place

pub decimal-number : (f t place : ℕ) (e : Ending) (s : List ℕ) → f < t → t ≤ length s → e ≡ ending_of (get_or s (t - 1) 0)
    → ended e (slice f (t - 1) s) (slice f t s) place ≡ decimal_number (slice f t s) place
unfolding decimal_number
decimal-number f t place e s h k q =
    let b = get_or s (t - 1) 0 in
    rw (q, last_byte f t s h k, but_last_lem f t s h k) (go (is_letter 102 b) (is_letter 100 b) (is_digit b))
  where
    go : (x y z : Bool) → ended (pick x EndsFloat (pick y EndsDouble (pick z EndsDigit EndsOther))) (slice f (t - 1) s) (slice f t s) place
        ≡ pick x (real_number true (decimal (slice f (t - 1) s) place))
        (pick y (real_number false (decimal (slice f (t - 1) s) place)) (pick z (real_number false (decimal (slice f t s) place)) (no bad_number place)))
    go true y z = refl
    go false true z = refl
    go false false true = refl
    go false false false = refl

-- a token of no byte
pub no-decimal : (f t place : ℕ) (s : List ℕ) → t ≤ f → no bad_number place ≡ decimal_number (slice f t s) place
unfolding decimal_number
no-decimal f t place s h = ap (λ (l : List ℕ). decimal_number l place) (sym (slice-none f t s h))

-- ---- a token, by whether it has a point

module _ (f t place : ℕ) (s : List ℕ) (h : f ≤ t) (k : t ≤ length s) where
  pub number-with : has is_point (slice f t s) ≡ true → decimal_number (slice f t s) place ≡ number (take (t - f) (drop f s)) place
  unfolding number
  number-with g = rw (← slice-from f t s h, g) refl

  pub number-without : has is_point (slice f t s) ≡ false → whole_number (slice f t s) place ≡ number (take (t - f) (drop f s)) place
  unfolding number
  number-without g = rw (← slice-from f t s h, g) refl

  -- a point that is looked for behind bytes that are none
  module _ {m r : ℕ} (p : FirstAt 46 46 s m t r) (l : f ≤ m) (n : has is_point (slice f m s) ≡ false) where
    found : (b : Bool) → has (either 46 46) (slice m t s) ≡ b → has is_point (slice f t s) ≡ b
    found b e = has-behind is_point f m t b s l (le_trans p.low p.high) k n (ap (λ (q : ℕ → Bool). has q (slice m t s)) (sym the-point) ∙ e)

    pub number-found : r < t → decimal_number (slice f t s) place ≡ number (take (t - f) (drop f s)) place
    number-found g = number-with (found true (part-has p k g))

    pub number-lacks : t ≤ r → whole_number (slice f t s) place ≡ number (take (t - f) (drop f s)) place
    number-lacks g = number-without (found false (part-lacks p k g))
