-- Laws for the code that writes lines: digits, words, the line feed and lines put one behind the other; and the answer, by the verdict on the
-- table.
-- Assumes nothing.
use Prim.Native.Nat.{ℕ, zero, suc, ◌+◌, ◌-◌, ◌*◌, ◌/◌, ◌%◌, ◌^◌, ◌≤◌, ◌<◌}
use mathlib.Core.Logic.{⊎_elim}
use mathlib.Core.Path.{◌≡◌, refl, sym, ap, ◌∙◌, subst}
use mathlib.Core.List.{List, [], ◌∷◌, ◌++◌, append-nil, append_assoc}
use native.Mathlib.Omega.{arith}
use native.Mathlib.Numerals.{add-one}
use native.Mathlib.Nat.{div-one}
use lib.ListN.{length, get_or, set, take, drop, length-drop, get_or-append}
use lib.Pow.{shr-shr}
use lib.Seq.{get_or-drop, get_or_at, take-suc, take_all, length-take-le}
use Rattle.form.specs.Answer.{Out, got, no, output_full}
use Rattle.form.specs.Spans.{part, over}
use Rattle.form.specs.Tables.{IsTable, Within}
use Rattle.form.specs.Writing.{Gives}
use Rattle.form.specs.Stored.{hex_digit, hex_digits, word_digits, line_of, lines_of, table_lines, storing, WriteLinesIs}
use Rattle.form.proofs.Picks.{lt-or}
use Rattle.form.proofs.Spans.{part_length}
use Rattle.form.proofs.Table.{over-over, over-next}
use Rattle.form.proofs.Stored.{digits-length, word-digits-length, lines-length, lines_next, fitting-fits, fitting-full}
use Rattle.std.specs.Prelude.{Result, Ok}
use Rattle.table.specs.declared.Unfit.{Unfit}
use Rattle.table.specs.Check.{VerdictIs}

-- What is put right behind a list belongs to it.
pub put-behind : (o : List ℕ) (i : ℕ) (ws : List ℕ) (j : ℕ) (vs : List ℕ) → j ≡ i + length ws → j ≤ length o → over (over o i ws) j vs ≡ over o i (ws ++ vs)
put-behind o i ws j vs next fits = rw next (over-over o i ws (rw next at fits) vs)

-- ---- the digits of a word, one behind the other

-- The digit at place i of n: the number is shifted by four bits for each digit behind it.
digit-place : (n v i : ℕ) → i < n → get_or (hex_digits n v) i 0 ≡ hex_digit (v / 2 ^ (4 * (n - suc i)) % 16)
unfolding hex_digits
digit-place zero v i h = absurd (omega arith)
digit-place (suc n) v i h =
    ⊎_elim
    (λ earlier.
    get_or-append (hex_digits n (v / 16)) (hex_digit (v % 16) ∷ []) 0 i (rw (digits-length n (v / 16)) earlier)
    ∙ digit-place n (v / 16) i earlier
    ∙ ap (λ x. hex_digit (x % 16)) (shr-shr v 4 (4 * (n - suc i)) ∙ ap (λ k. v / 2 ^ k) (omega arith)))
    (λ last.
    let e : i ≡ n = omega arith in
    let none : 4 * (suc n - suc i) ≡ 0 = omega arith in
    get_or_at (hex_digits n (v / 16)) (hex_digit (v % 16)) [] 0 i (digits-length n (v / 16) ∙ sym e) ∙ rw none (ap (λ x. hex_digit (x % 16)) (sym (div-one v))))
    (lt-or i n)

-- Where the first i digits of a word stand, the next is put.
module _ (o₀ o : List ℕ) (at v i : ℕ) (so_far : o ≡ over o₀ at (take i (hex_digits 8 v))) where
  pub digit-behind : i < 8 → at + 8 ≤ length o₀ → set o (at + i) (hex_digit (v / 2 ^ (28 - 4 * i) % 16)) ≡ over o₀ at (take (i + 1) (hex_digits 8 v))
  digit-behind h fits =
      let long : length (take i (hex_digits 8 v)) ≡ i = length-take-le i (hex_digits 8 v) (rw (digits-length 8 v) (omega arith)) in
      let bits : 28 - 4 * i ≡ 4 * (8 - suc i) = omega arith in
      let next : take (i + 1) (hex_digits 8 v) ≡ take i (hex_digits 8 v) ++ (hex_digit (v / 2 ^ (28 - 4 * i) % 16) ∷ []) =
      rw (add-one i, bits, ← digit-place 8 v i h) (take-suc (hex_digits 8 v) i 0 (rw (digits-length 8 v) h)) in
      rw (so_far, next)
      (subst (λ k. set (over o₀ at (take i (hex_digits 8 v))) (at + k) (hex_digit (v / 2 ^ (28 - 4 * i) % 16)) ≡ over o₀ at (take i (hex_digits 8 v) ++ (hex_digit (v / 2 ^ (28 - 4 * i) % 16) ∷ [])))
      long (over-next o₀ at (take i (hex_digits 8 v)) _ (rw long (omega arith))))

  -- No digit is left.
  pub digits-done : 8 ≤ i → o ≡ over o₀ at (hex_digits 8 v)
  digits-done h = so_far ∙ ap (over o₀ at) (take_all i (hex_digits 8 v) (rw (digits-length 8 v) h))

-- ---- words, the line feed and lines, one behind the other

-- The digits of one word more.
pub word_next : (t : List ℕ) (k : ℕ) → k < length t → word_digits (take (suc k) t) ≡ word_digits (take k t) ++ hex_digits 8 (get_or t k 0)
unfolding word_digits
word_next [] k h = absurd (omega arith)
word_next (v ∷ t) zero h = append-nil (hex_digits 8 v)
word_next (v ∷ t) (suc k) h = rw (word_next t k (omega arith)) (sym (append_assoc (hex_digits 8 v) (word_digits (take k t)) (hex_digits 8 (get_or t k 0))))

-- Where the digits of k words of t, those from `at` on, stand from place i on, the next word's are put, and at last the line feed.
module _ (t : List ℕ) (at k : ℕ) (o₀ : List ℕ) (i : ℕ) (o : List ℕ) (so_far : o ≡ over o₀ i (word_digits (part t at k))) where
  -- The place behind those digits.
  place : at + k ≤ length t → i + 8 * k ≡ i + length (word_digits (part t at k))
  place h = omega (arith, word-digits-length (part t at k), part_length t at k h)

  pub word-behind : at + k < length t → i + 8 * k ≤ length o₀ → over o (i + 8 * k) (hex_digits 8 (get_or t (at + k) 0)) ≡ over o₀ i (word_digits (part t at (k + 1)))
  word-behind h fits =
      rw (so_far, put-behind o₀ i (word_digits (part t at k)) (i + 8 * k) (hex_digits 8 (get_or t (at + k) 0)) (place (omega arith)) fits)
      (ap (over o₀ i) (rw (add-one k, word_next (drop at t) k (simp length-drop (omega arith)), get_or-drop at t k 0) refl))

  pub feed-behind : at + k ≤ length t → i + 8 * k < length o₀ → set o (i + 8 * k) 10 ≡ over o₀ i (line_of (part t at k))
  feed-behind h fits = rw (so_far, place h) (over-next o₀ i (word_digits (part t at k)) 10 (rw (place h) at fits))

-- Where the lines of i records of t stand, of w words each, the next record's is put.
pub line-behind : (w : ℕ) (t : List ℕ) (i : ℕ) (o₀ o : List ℕ) → o ≡ over o₀ 0 (lines_of w i t) → w * i ≤ length t → (8 * w + 1) * i ≤ length o₀
    → over o ((8 * w + 1) * i) (line_of (part t (w * i) w)) ≡ over o₀ 0 (lines_of w (i + 1) t)
line-behind w t i o₀ o so_far h fits =
    let line = line_of (part t (w * i) w) in
    rw (so_far, put-behind o₀ 0 (lines_of w i t) ((8 * w + 1) * i) line (omega (arith, lines-length w i t h)) fits) (rw (add-one i) (ap (over o₀ 0) (sym (lines_next w i t))))

-- ---- the answer, by the verdict on the words

-- How many bytes the lines of a table have.
lines_long : (t : List ℕ) → length (table_lines t) ≡ 73 * (length t / 9)
lines_long t = lines-length 9 (length t / 9) t (omega arith)

module _ (d : ℕ) (t : List ℕ) {r : Result (Unit {0}) Unfit} (v : VerdictIs d t r) where
  -- Words of that verdict are within the limits and form a table.
  pub formed : r ≡ Ok tt → Within d t × IsTable d t
  formed e = rw e at v

  module _ (o : List ℕ) where
    -- They form a table: the promise is what its lines give.
    lines_fit : r ≡ Ok tt → {answer : Out ℕ} {o' : List ℕ} → Gives (storing t (length o)) o answer o' → WriteLinesIs d t o answer o'
    lines_fit e g =
        let h = formed e in
        record { large = λ n. absurd (n h.0); unfit = λ w n. absurd (n h.1); fit = λ w i. g }

    -- The output is too short for its lines (13).
    pub lines-full : r ≡ Ok tt → length o < 73 * (length t / 9) → WriteLinesIs d t o (no output_full 0) o
    lines-full e h = lines_fit e (rw (fitting-full (table_lines t) (length o) (rw (lines_long t) h)) (record { answer_is = refl; output_is = refl }))

    -- Its lines are put.
    pub lines-put : {o' : List ℕ} → r ≡ Ok tt → 73 * (length t / 9) ≤ length o → o' ≡ over o 0 (table_lines t)
        → WriteLinesIs d t o (got (73 * (length t / 9))) o'
    lines-put e h p =
        lines_fit e (rw (fitting-fits (table_lines t) (length o) (rw (lines_long t) h)) (record { answer_is = ap got (sym (lines_long t)); output_is = p }))
