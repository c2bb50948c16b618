-- Laws for the code that reads lines back: line feeds counted, digits and the words that they are, and a good line known by its bytes.
-- Assumes nothing.
use Prim.Native.Nat.{ℕ, zero, suc, ◌+◌, ◌-◌, ◌*◌, ◌%◌, ◌^◌, ◌≤◌, ◌<◌}
use mathlib.Core.Path.{◌≡◌, refl, sym, ap, ◌∙◌, subst}
use mathlib.Core.Logic.{◌⊎◌, inl, inr, ⊎_elim}
use mathlib.Core.List.{List, [], ◌∷◌, ◌++◌}
use mathlib.Core.Bool.{Bool, true, false, ◌&&◌}
use native.Mathlib.Omega.{arith}
use native.Mathlib.Numerals.{add-one, sub-one}
use native.Mathlib.Nat.{add_assoc, add-mul, mul_assoc, mul-le-mul_right}
use lib.Pow.{pow-add, pow_pos, shl_exact}
use borrow.Author.Tests.{ltb-true, lt-ltb, le-ltb, eqb-true, eqb-false, eq-eqb, ne_eqb}
use lib.Dec.{ltb, eqb}
use lib.ListN.{length, get_or, set, take, drop, length-append, length-drop, drop_of_length-le}
use lib.Seq.{take-suc, take_at, get_or-drop, get_or_at, split_at, drop-drop, ext_get_or, length-take-le}
use Rattle.form.specs.Answer.{pick}
use Rattle.form.specs.Spans.{part, over}
use Rattle.form.specs.Stored.{TextLine, lines_in, digit_of, all_digits, hex_value, begun, is_line, words_of}
use Rattle.form.proofs.Picks.{lt-or, and_left, and_right, and-true, and-false}
use Rattle.form.proofs.Drops.{drop1}
use Rattle.form.proofs.Spans.{part_length}
use Rattle.form.proofs.Places.{part_at}
use Rattle.form.proofs.Table.{over_none, over-next}
use Rattle.form.proofs.Stored.{below-digits, below-letters, above-digits, digits_append, digit-there, value_none, value-more, words-length}
use Rattle.form.proofs.Stored.{no_lines, fed-line, begun-line, digits-line, First, first-line, is-good, good-ended, good-long, good-digits}
use Rattle.table_store.specs.Steps.{feeds, fed_at, FirstLine}

-- ---- line feeds counted

module _ (s : List ℕ) (i : ℕ) where
  pub feeds-fed : i < length s → get_or s i 0 ≡ 10 → feeds (drop i s) ≡ 1 + feeds (drop (i + 1) s)
  unfolding feeds
  feeds-fed h e = rw (drop1 s i h, eq-eqb (get_or s i 0) 10 e) refl

  pub feeds-plain : i < length s → (get_or s i 0 ≡ 10 → ⊥) → feeds (drop i s) ≡ feeds (drop (i + 1) s)
  unfolding feeds
  feeds-plain h n = rw (drop1 s i h, ne_eqb (get_or s i 0) 10 n) (omega arith)

  pub feeds-end : length s ≤ i → feeds (drop i s) ≡ 0
  unfolding feeds
  feeds-end h = rw (drop_of_length-le s h) refl

pub feeds-few : (s : List ℕ) → feeds s ≤ length s
unfolding feeds
feeds-few [] = omega arith
feeds-few (b ∷ s) = go (eqb b 10) (feeds-few s)
  where
    go : (t : Bool) → feeds s ≤ length s → pick t 1 0 + feeds s ≤ suc (length s)
    go true l = omega arith
    go false l = omega arith

-- Lines counted by their line feeds: one more where the last byte is none.
last_line_lem : ℕ → ℕ
last_line_lem b = pick (eqb b 10) 0 1

count-lines : (b : ℕ) (s : List ℕ) → length (lines_in (b ∷ s)) ≡ feeds (b ∷ s) + last_line_lem (get_or (b ∷ s) (length s) 0)
unfolding feeds last_line_lem
count-lines b [] = go (eqb b 10) refl
  where
    go : (t : Bool) → eqb b 10 ≡ t → length (lines_in (b ∷ [])) ≡ pick t 1 0 + 0 + pick t 0 1
    go true e = rw (fed-line b [] (eqb-true b 10 e), no_lines) refl
    go false e = rw (begun-line b [] (eqb-false b 10 e), no_lines) refl
count-lines b (c ∷ s) = go (eqb b 10) refl (count-lines c s)
  where
    go : (t : Bool) → eqb b 10 ≡ t → length (lines_in (c ∷ s)) ≡ feeds (c ∷ s) + last_line_lem (get_or (c ∷ s) (length s) 0)
        → length (lines_in (b ∷ c ∷ s)) ≡ pick t 1 0 + feeds (c ∷ s) + last_line_lem (get_or (c ∷ s) (length s) 0)
    go true e ih = rw (fed-line b (c ∷ s) (eqb-true b 10 e)) (omega arith)
    go false e ih =
        let f = first-line c s in
        let same : length (begun b (lines_in (c ∷ s))) ≡ length (lines_in (c ∷ s)) = rw f.lines_are refl in
        ap length (begun-line b (c ∷ s) (eqb-false b 10 e)) ∙ same ∙ rw ih (omega arith)

pub count_none : (s : List ℕ) → length s ≡ 0 → feeds s ≡ length (lines_in s)
unfolding feeds
count_none [] e = sym (ap length no_lines)
count_none (b ∷ s) e = absurd (omega arith)

pub count-ended : (s : List ℕ) → (length s ≡ 0 → ⊥) → get_or s (length s - 1) 0 ≡ 10 → feeds s ≡ length (lines_in s)
unfolding last_line_lem
count-ended [] n e = absurd (n refl)
count-ended (b ∷ s) n e =
    let e' : get_or (b ∷ s) (length s) 0 ≡ 10 = rw (sub-one (suc (length s))) at e in
    sym (count-lines b s ∙ rw (eq-eqb (get_or (b ∷ s) (length s) 0) 10 e') (omega arith))

pub count-unended : (s : List ℕ) → (length s ≡ 0 → ⊥) → (get_or s (length s - 1) 0 ≡ 10 → ⊥) → feeds s + 1 ≡ length (lines_in s)
unfolding last_line_lem
count-unended [] n e = absurd (n refl)
count-unended (b ∷ s) n e =
    let e' : get_or (b ∷ s) (length s) 0 ≡ 10 → ⊥ = λ q. e (rw (sub-one (suc (length s))) q) in
    sym (count-lines b s ∙ rw (ne_eqb (get_or (b ∷ s) (length s) 0) 10 e') refl)

-- ---- digits looked at, and their number

pub no-digits : (s : List ℕ) (at : ℕ) → ltb 0 16 ≡ all_digits (part s at 0)
unfolding all_digits
no-digits s at = refl

-- A digit up to 9 is a decimal one, and another a letter.
module _ (b : ℕ) (d : digit_of b < 16) where
  pub low-range : b ≤ 57 → 48 ≤ b
  low-range h = ⊎_elim (λ l. absurd (omega (arith, below-digits b l))) (λ l. l) (lt-or b 48)

  pub high-range : 58 ≤ b → (97 ≤ b) × (b < 103)
  high-range h = (
    ⊎_elim (λ l. absurd (omega (arith, below-letters b h l))) (λ l. l) (lt-or b 97),
    ⊎_elim (λ l. l) (λ l. absurd (omega (arith, above-digits b l))) (lt-or b 103),
  )

module _ (s : List ℕ) (at k : ℕ) (h : at + k < length s) where
  next-byte : part s at (k + 1) ≡ part s at k ++ (get_or s (at + k) 0 ∷ [])
  next-byte = rw (add-one k, take-suc (drop at s) k 0 (simp length-drop (omega arith)), get_or-drop at s k 0) refl

  next-digit : all_digits (part s at (k + 1)) ≡ (all_digits (part s at k) && ltb (digit_of (get_or s (at + k) 0)) 16)
  unfolding all_digits
  next-digit = ap all_digits next-byte ∙ digits_append (part s at k) (get_or s (at + k) 0 ∷ []) ∙ ap (λ x. all_digits (part s at k) && x) (and-true _)

  module _ (v : ℕ) (is : v ≡ digit_of (get_or s (at + k) 0)) (largest : ℕ) (so_far : ltb largest 16 ≡ all_digits (part s at k)) where
    -- A value above the largest so far takes its place.
    pub larger : largest < v → ltb v 16 ≡ all_digits (part s at (k + 1))
    larger g = rw (next-digit, ← is, ← so_far) (by_value (lt-or v 16))
      where
        by_value : (v < 16) ⊎ (16 ≤ v) → ltb v 16 ≡ (ltb largest 16 && ltb v 16)
        by_value (inl l) = rw (lt-ltb v 16 l, lt-ltb largest 16 (omega arith)) refl
        by_value (inr l) = rw (le-ltb v 16 l) (sym (and-false (ltb largest 16)))

    pub not-larger : v ≤ largest → ltb largest 16 ≡ all_digits (part s at (k + 1))
    not-larger g = rw (next-digit, ← is, ← so_far) (by-largest (lt-or largest 16))
      where
        by-largest : (largest < 16) ⊎ (16 ≤ largest) → ltb largest 16 ≡ (ltb largest 16 && ltb v 16)
        by-largest (inl l) = rw (lt-ltb largest 16 l, lt-ltb v 16 (omega arith)) refl
        by-largest (inr l) = rw (le-ltb largest 16 l) refl

  -- One digit more.
  value-turn : hex_value (part s at (k + 1)) ≡ hex_value (part s at k) * 16 + digit_of (get_or s (at + k) 0)
  value-turn = ap hex_value next-byte ∙ value-more (part s at k) (get_or s (at + k) 0)

-- The digit at place k of eight weighs four bits for each one behind it. With k digits put at their weights and v the next one's value:
module _ (k : ℕ) (h : k < 8) (n v : ℕ) (digit : v < 16) where
  -- the shift loses nothing,
  pub weighed : v * 2 ^ (28 - 4 * k) % 2 ^ 32 ≡ v * 2 ^ (28 - 4 * k)
  weighed = shl_exact 4 (28 - 4 * k) 32 digit (omega arith)

  weight : 2 ^ (32 - 4 * k) ≡ 16 * 2 ^ (28 - 4 * k)
  weight = let e : 32 - 4 * k ≡ 4 + (28 - 4 * k) = omega arith in ap (λ x. 2 ^ x) e ∙ pow-add 2 4 (28 - 4 * k)

  next-weight : 2 ^ (32 - 4 * (k + 1)) ≡ 2 ^ (28 - 4 * k)
  next-weight = ap (λ x. 2 ^ x) (omega arith)

  -- the sum has room in a word,
  pub sum_room : n + 2 ^ (32 - 4 * k) ≤ 2 ^ 32 → n + v * 2 ^ (28 - 4 * k) + 2 ^ (32 - 4 * (k + 1)) ≤ 2 ^ 32
  sum_room room = rw next-weight (omega (arith, weight, mul-le-mul_right {m = v} {n = 15} (2 ^ (28 - 4 * k)) (omega arith)))

  pub sum_fits : n + 2 ^ (32 - 4 * k) ≤ 2 ^ 32 → n + v * 2 ^ (28 - 4 * k) < 2 ^ 32
  sum_fits room = omega (arith, sum_room room, pow_pos (32 - 4 * (k + 1)))

  -- and is what the digits so far are, at their weight.
  pub sum-turn : (s : List ℕ) (at : ℕ) → at + k < length s → v ≡ digit_of (get_or s (at + k) 0) → n ≡ hex_value (part s at k) * 2 ^ (32 - 4 * k)
      → n + v * 2 ^ (28 - 4 * k) ≡ hex_value (part s at (k + 1)) * 2 ^ (32 - 4 * (k + 1))
  sum-turn s at there is so_far =
      let p = 2 ^ (28 - 4 * k) in
      let g = hex_value (part s at k) in
      rw (next-weight, value-turn s at k there, ← is, so_far, weight) (ap (λ x. x + v * p) (sym (mul_assoc g 16 p)) ∙ sym (add-mul (g * 16) v p))

pub no_value : (s : List ℕ) (at : ℕ) → 0 ≡ hex_value (part s at 0) * 2 ^ 32
no_value s at = rw value_none refl

-- Each byte of a span of digits is one.
pub digit_at : (s : List ℕ) (at m k : ℕ) → at + m ≤ length s → all_digits (part s at m) ≡ true → k < m → digit_of (get_or s (at + k) 0) < 16
digit_at s at m k fits d h = rw (part_at s at m k h) at (digit-there (part s at m) d k (rw (part_length s at m fits) h))

-- ---- the words of a line, one after the other

-- A span of a span.
pub part-part : (s : List ℕ) (at m a k : ℕ) → at + m ≤ length s → a + k ≤ m → part (part s at m) a k ≡ part s (at + a) k
part-part s at m a k fits h =
    ext_get_or 0 (part (part s at m) a k) (part s (at + a) k) (inner-long ∙ sym outer-long)
    (λ i l.
    let l' : i < k = rw inner-long at l in
    part_at (part s at m) a k i l'
    ∙ part_at s at m (a + i) (omega arith)
    ∙ ap (λ j. get_or s j 0) (sym (add_assoc at a i))
    ∙ sym (part_at s (at + a) k i l'))
  where
    inner-long : length (part (part s at m) a k) ≡ k
    inner-long = part_length (part s at m) a k (rw (part_length s at m fits) h)

    outer-long : length (part s (at + a) k) ≡ k
    outer-long = part_length s (at + a) k (omega arith)

pub words-next : (k : ℕ) (s : List ℕ) → words_of (suc k) s ≡ words_of k s ++ (hex_value (part s (8 * k) 8) ∷ [])
unfolding words_of
words-next zero s = refl
words-next (suc k) s =
    let e : 8 * suc k ≡ 8 + 8 * k = omega arith in
    rw (e, ← drop-drop (8 * k) 8 s) (ap (λ x. hex_value (take 8 s) ∷ x) (words-next k (drop 8 s)))

-- The words of a line are put one behind the other.
pub no_words : (t : List ℕ) (i : ℕ) (s : List ℕ) → t ≡ over t i (words_of 0 s)
unfolding words_of
no_words t i s = sym (over_none t i)

pub word-put : (t s : List ℕ) (i k : ℕ) → i + k < length t → set (over t i (words_of k s)) (i + k) (hex_value (part s (8 * k) 8)) ≡ over t i (words_of (k + 1) s)
word-put t s i k h =
    let n = words-length k s in
    rw (add-one k, words-next k s)
    (subst (λ j. set (over t i (words_of k s)) (i + j) (hex_value (part s (8 * k) 8)) ≡ over t i (words_of k s ++ (hex_value (part s (8 * k) 8) ∷ []))) n
    (over-next t i (words_of k s) (hex_value (part s (8 * k) 8)) (rw n h)))

-- ---- a good line of w words, known by its bytes

pub record Front (w : ℕ) (s : List ℕ) : Type 0 where
  pub long : 8 * w + 1 ≤ length s
  pub fed : get_or s (8 * w) 0 ≡ 10
  pub digits : all_digits (take (8 * w) s) ≡ true

-- A good line stands there in full.
good-front : (w : ℕ) (s : List ℕ) (f : First s) → is_line w f.line ≡ true → Front w s
good-front w s f good =
    let b = f.behind (good-ended w f.line good) in
    let n : length f.line.bytes ≡ 8 * w = good-long w f.line good in
    rw b.front (record {
      long = simp length-append (omega arith);
      fed = get_or_at f.line.bytes 10 b.rest 0 (8 * w) n;
      digits = rw (take_at f.line.bytes (10 ∷ b.rest) (8 * w) n) (good-digits w f.line good);
    })

-- Bytes that begin otherwise begin with a bad line.
pub bad-line : (w : ℕ) (s : List ℕ) → 0 < length s → (Front w s → ⊥) → FirstLine w s false
bad-line w [] h n = absurd (omega arith)
bad-line w (b ∷ s) h n =
    let f = first-line b s in
    record {
      line = f.line;
      later = f.later;
      lines_are = f.lines_are;
      told = by-test (is_line w f.line) (λ good. n (good-front w (b ∷ s) f good));
      front = λ e. absurd (let z : ◌≡◌ {A = ℕ} 0 1 = cc in omega arith);
    }
  where
    by-test : (t : Bool) → (t ≡ true → ⊥) → false ≡ t
    by-test true never = absurd (never refl)
    by-test false never = refl

pub good-line : (w : ℕ) (s : List ℕ) → Front w s → FirstLine w s true
good-line w s f =
    let l : TextLine = record { bytes = take (8 * w) s; ended = true } in
    let split : s ≡ take (8 * w) s ++ (10 ∷ drop (suc (8 * w)) s) = split_at s (8 * w) 0 (omega (arith, f.long)) ∙ ap (λ x. take (8 * w) s ++ (x ∷ drop (suc (8 * w)) s)) f.fed in
    record {
      line = l;
      later = lines_in (drop (suc (8 * w)) s);
      lines_are = ap lines_in split ∙ digits-line (take (8 * w) s) (drop (suc (8 * w)) s) f.digits;
      told = sym (is-good w l refl (length-take-le (8 * w) s (omega (arith, f.long))) f.digits);
      front = λ _. record { long = f.long; digits = f.digits; bytes_are = refl; goes_on = ap (λ k. lines_in (drop k s)) (sym (add-one (8 * w))) };
    }

-- A line feed that stands there, or doesn't.
module _ (s : List ℕ) (at : ℕ) where
  pub fed-past : length s ≤ at → false ≡ fed_at s at
  unfolding fed_at
  fed-past h = rw (le-ltb at (length s) h) refl

  pub fed-byte : at < length s → eqb (get_or s at 0) 10 ≡ fed_at s at
  unfolding fed_at
  fed-byte h = rw (lt-ltb at (length s) h) refl

  pub fed-there : fed_at s at ≡ true → (at < length s) × (get_or s at 0 ≡ 10)
  unfolding fed_at
  fed-there e = (
    ltb-true at (length s) (and_left (ltb at (length s)) (eqb (get_or s at 0) 10) e),
    eqb-true (get_or s at 0) 10 (and_right (ltb at (length s)) (eqb (get_or s at 0) 10) e),
  )

-- The same of the bytes from a place on, as the code asks: the line feed behind the digits, then those.
module _ (w : ℕ) (s : List ℕ) (at : ℕ) (h : at < length s) where
  left-long : length (drop at s) ≡ length s - at
  left-long = length-drop at s

  pub unfed-line : fed_at s (at + 8 * w) ≡ false → FirstLine w (drop at s) false
  unfed-line e =
      bad-line w (drop at s) (rw left-long (omega arith))
      (λ f.
      let long : 8 * w + 1 ≤ length s - at = rw left-long at f.long in
      let byte : get_or s (at + 8 * w) 0 ≡ 10 = sym (get_or-drop at s (8 * w) 0) ∙ f.fed in
      let fed : fed_at s (at + 8 * w) ≡ true = sym (fed-byte s (at + 8 * w) (omega arith)) ∙ eq-eqb (get_or s (at + 8 * w) 0) 10 byte in
      absurd (let z : ◌≡◌ {A = ℕ} 0 1 = cc in omega arith))

  pub told_line : fed_at s (at + 8 * w) ≡ true → FirstLine w (drop at s) (all_digits (part s at (8 * w)))
  told_line e = by_digits (all_digits (part s at (8 * w))) refl
    where
      there : (at + 8 * w < length s) × (get_or s (at + 8 * w) 0 ≡ 10)
      there = fed-there s (at + 8 * w) e

      by_digits : (t : Bool) → all_digits (part s at (8 * w)) ≡ t → FirstLine w (drop at s) t
      by_digits true d =
          good-line w (drop at s) (record { long = rw left-long (omega (arith, there.0)); fed = get_or-drop at s (8 * w) 0 ∙ there.1; digits = d })
      by_digits false d =
          bad-line w (drop at s) (rw left-long (omega arith)) (λ f. absurd (let z : ◌≡◌ {A = ℕ} 0 1 = cc f.digits in omega arith))
