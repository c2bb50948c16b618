-- Laws of stored lines ([6]): digits and the number that they are, the words of a line, lines told apart, and the lines of records.
-- Assumes nothing.
use Prim.Native.Nat.{ℕ, zero, suc, ◌+◌, ◌-◌, ◌*◌, ◌/◌, ◌%◌, ◌^◌, ◌≤◌, ◌<◌}
use mathlib.Core.Path.{◌≡◌, refl, sym, ap, ◌∙◌, subst}
use mathlib.Core.Logic.{⊎_elim}
use mathlib.Core.List.{List, [], ◌∷◌, ◌++◌, append-nil, append_assoc}
use mathlib.Core.Bool.{Bool, true, false, ◌&&◌}
use native.Mathlib.Omega.{arith}
use native.Mathlib.Nat.{mul-zero, mul-suc, pow-suc, one-le-pow, mod-one, mod-lt, mod-eq_of_lt}
use borrow.Author.Tests.{ltb-true, leb-true, lt-ltb, le-ltb, le-leb, lt-leb, eqb-true, eqb-false, eq-eqb, ne_eqb}
use lib.Arith.{digits_div, digits_mod, mod-mul}
use lib.Dec.{ltb, leb, eqb, lit<}
use lib.ListN.{length, get_or, take, drop, length-append, length-drop, take-append-drop}
use lib.Seq.{take-suc, take-length, take_at, drop_at, length-take-le, drop-drop}
use Rattle.form.specs.Answer.{got, no, ◌>>=◌, output_full}
use Rattle.form.specs.Spans.{part}
use Rattle.form.specs.Stored.{hex_digit, hex_digits, word_digits, line_of, lines_of, fitting, TextLine, begun, lines_in, digit_of, all_digits, hex_value, is_line, words_of, each_line}
use Rattle.form.proofs.Answer.{bind-got, guard-got}
use Rattle.form.proofs.Numbers.{foldl-snoc}
use Rattle.form.proofs.Picks.{lt-or, differ, and_left, and_right}

-- ---- a digit and its value

module _ (b : ℕ) where
  pub below-digits : b < 48 → digit_of b ≡ 16
  unfolding digit_of
  below-digits h = simp (lt-ltb b 48 h)

  pub decimal_digit : 48 ≤ b → b < 58 → digit_of b ≡ b - 48
  unfolding digit_of
  decimal_digit l h = simp (le-ltb b 48 l, lt-ltb b 58 h)

  pub below-letters : 58 ≤ b → b < 97 → digit_of b ≡ 16
  unfolding digit_of
  below-letters l h = simp (le-ltb b 48 (omega arith), le-ltb b 58 l, lt-ltb b 97 h)

  pub letter-digit : 97 ≤ b → b < 103 → digit_of b ≡ b - 97 + 10
  unfolding digit_of
  letter-digit l h = simp (le-ltb b 48 (omega arith), le-ltb b 58 (omega arith), le-ltb b 97 l, lt-ltb b 103 h)

  pub above-digits : 103 ≤ b → digit_of b ≡ 16
  unfolding digit_of
  above-digits l = simp (le-ltb b 48 (omega arith), le-ltb b 58 (omega arith), le-ltb b 97 (omega arith), le-ltb b 103 l)

  pub low_digit : b < 10 → hex_digit b ≡ 48 + b
  unfolding hex_digit
  low_digit h = simp (lt-ltb b 10 h)

  pub high_digit : 10 ≤ b → hex_digit b ≡ 97 + (b - 10)
  unfolding hex_digit
  high_digit h = simp (le-ltb b 10 h)

-- The value of the digit of a number.
pub digit-back : (d : ℕ) → d < 16 → digit_of (hex_digit d) ≡ d
digit-back d h =
    ⊎_elim
    (λ low. rw (low_digit d low, decimal_digit (48 + d) (omega arith) (omega arith)) (omega arith))
    (λ high. rw (high_digit d high, letter-digit (97 + (d - 10)) (omega arith) (omega arith)) (omega arith))
    (lt-or d 10)

-- The digit of a digit's value.
pub value-back : (b : ℕ) → digit_of b < 16 → hex_digit (digit_of b) ≡ b
value-back b h =
    ⊎_elim
    (λ l. absurd (omega (arith, below-digits b l)))
    (λ g. ⊎_elim
    (λ l. rw (decimal_digit b g l, low_digit (b - 48) (omega arith)) (omega arith))
    (λ g. ⊎_elim
    (λ l. absurd (omega (arith, below-letters b g l)))
    (λ g. ⊎_elim
    (λ l. rw (letter-digit b g l, high_digit (b - 97 + 10) (omega arith)) (omega arith))
    (λ g. absurd (omega (arith, above-digits b g)))
    (lt-or b 103))
    (lt-or b 97))
    (lt-or b 58))
    (lt-or b 48)

-- ---- digits and their number

pub value_none : hex_value [] ≡ 0
unfolding hex_value
value_none = refl

pub value-more : (s : List ℕ) (b : ℕ) → hex_value (s ++ (b ∷ [])) ≡ hex_value s * 16 + digit_of b
unfolding hex_value
value-more s b = foldl-snoc (λ n d. n * 16 + digit_of d) 0 s b

pub value-next : (s : List ℕ) (i : ℕ) → i < length s → hex_value (take (suc i) s) ≡ hex_value (take i s) * 16 + digit_of (get_or s i 0)
value-next s i h = ap hex_value (take-suc s i 0 h) ∙ value-more (take i s) (get_or s i 0)

pub digits-length : (n v : ℕ) → length (hex_digits n v) ≡ n
unfolding hex_digits
digits-length zero v = refl
digits-length (suc n) v = simp length-append (omega (arith, digits-length n (v / 16)))

-- The number that the n lowest digits of v are.
pub digits_value : (n v : ℕ) → hex_value (hex_digits n v) ≡ v % 16 ^ n
unfolding hex_digits
digits_value zero v = value_none ∙ sym (mod-one v)
digits_value (suc n) v =
    value-more (hex_digits n (v / 16)) (hex_digit (v % 16))
    ∙ ap (λ x. hex_value (hex_digits n (v / 16)) * 16 + x) (digit-back (v % 16) (mod-lt v (lit< tt)))
    ∙ ap (λ x. x * 16 + v % 16) (digits_value n (v / 16))
    ∙ sym (ap (λ x. v % x) (pow-suc 16 n) ∙ mod-mul v (one-le-pow n 16 (lit< tt)) (lit< tt))

pub digits_append : (s t : List ℕ) → all_digits (s ++ t) ≡ (all_digits s && all_digits t)
unfolding all_digits
digits_append [] t = refl
digits_append (b ∷ s) t = go (ltb (digit_of b) 16) (digits_append s t)
  where
    go : (x : Bool) → all_digits (s ++ t) ≡ (all_digits s && all_digits t) → (x && all_digits (s ++ t)) ≡ ((x && all_digits s) && all_digits t)
    go true e = e
    go false e = refl

pub digits-all : (n v : ℕ) → all_digits (hex_digits n v) ≡ true
unfolding hex_digits all_digits
digits-all zero v = refl
digits-all (suc n) v =
    digits_append (hex_digits n (v / 16)) (hex_digit (v % 16) ∷ [])
    ∙ rw (digits-all n (v / 16), digit-back (v % 16) (mod-lt v (lit< tt)), lt-ltb (v % 16) 16 (mod-lt v (lit< tt))) refl

-- Of digits each is one.
pub digit-there : (s : List ℕ) → all_digits s ≡ true → (k : ℕ) → k < length s → digit_of (get_or s k 0) < 16
unfolding all_digits
digit-there [] d k h = absurd (omega arith)
digit-there (b ∷ s) d zero h = ltb-true (digit_of b) 16 (and_left (ltb (digit_of b) 16) (all_digits s) d)
digit-there (b ∷ s) d (suc k) h = digit-there s (and_right (ltb (digit_of b) 16) (all_digits s) d) k (omega arith)

-- Of digits those before a place are digits, those behind it, and those of a span.
module _ (s : List ℕ) (d : all_digits s ≡ true) where
  both : (k : ℕ) → (all_digits (take k s) && all_digits (drop k s)) ≡ true
  both k = sym (digits_append (take k s) (drop k s)) ∙ rw (take-append-drop k s) d

  pub front-digits : (k : ℕ) → all_digits (take k s) ≡ true
  front-digits k = and_left (all_digits (take k s)) (all_digits (drop k s)) (both k)

  pub behind-digits : (k : ℕ) → all_digits (drop k s) ≡ true
  behind-digits k = and_right (all_digits (take k s)) (all_digits (drop k s)) (both k)

pub span-digits : (s : List ℕ) → all_digits s ≡ true → (at k : ℕ) → all_digits (part s at k) ≡ true
span-digits s d at k = front-digits (drop at s) (behind-digits s d at) k

-- The digits of the number that the first i digits are.
digits-take : (s : List ℕ) → all_digits s ≡ true → (i : ℕ) → i ≤ length s → hex_digits i (hex_value (take i s)) ≡ take i s
unfolding hex_digits
digits-take s d zero h = refl
digits-take s d (suc i) h =
    let b = digit-there s d i h in
    rw (
      value-next s i h,
      digits_div (hex_value (take i s)) b,
      digits_mod (hex_value (take i s)) b,
      digits-take s d i (omega arith),
      value-back (get_or s i 0) b,
    )
    (sym (take-suc s i 0 h))

-- Digits are those of the number that they are.
pub value-digits : (s : List ℕ) → all_digits s ≡ true → hex_digits (length s) (hex_value s) ≡ s
value-digits s d = subst (λ l. hex_digits (length s) (hex_value l) ≡ l) (take-length s) (digits-take s d (length s) (omega arith))

-- The number that n digits are is below 16 ^ n.
pub value-below : (s : List ℕ) → all_digits s ≡ true → hex_value s < 16 ^ length s
value-below s d =
    let n = length s in
    let e : hex_value s ≡ hex_value s % 16 ^ n = ap hex_value (sym (value-digits s d)) ∙ digits_value n (hex_value s) in
    subst (λ v. v < 16 ^ n) (sym e) (mod-lt (hex_value s) (one-le-pow n 16 (lit< tt)))

-- ---- the words of a line

pub word-digits-length : (ws : List ℕ) → length (word_digits ws) ≡ 8 * length ws
unfolding word_digits
word-digits-length [] = refl
word-digits-length (v ∷ vs) = simp length-append (omega (arith, digits-length 8 v, word-digits-length vs))

pub word-digits-all : (ws : List ℕ) → all_digits (word_digits ws) ≡ true
unfolding word_digits all_digits
word-digits-all [] = refl
word-digits-all (v ∷ vs) = digits_append (hex_digits 8 v) (word_digits vs) ∙ rw (digits-all 8 v, word-digits-all vs) refl

-- The words of the digits of words below 2 ^ 32.
pub words_back : (ws : List ℕ) → ((k : ℕ) → get_or ws k 0 < 2 ^ 32) → words_of (length ws) (word_digits ws) ≡ ws
unfolding word_digits words_of
words_back [] small = refl
words_back (v ∷ vs) small =
    rw (
      take_at (hex_digits 8 v) (word_digits vs) 8 (digits-length 8 v),
      drop_at (hex_digits 8 v) (word_digits vs) 8 (digits-length 8 v),
      digits_value 8 v,
      mod-eq_of_lt (small 0),
      words_back vs (λ k. small (suc k)),
    )
    refl

pub words-length : (w : ℕ) (s : List ℕ) → length (words_of w s) ≡ w
unfolding words_of
words-length zero s = refl
words-length (suc w) s = ap suc (words-length w (drop 8 s))

-- The first eight digits and the rest.
module _ (w : ℕ) (s : List ℕ) (long : length s ≡ 8 * suc w) where
  first-long : length (take 8 s) ≡ 8
  first-long = length-take-le 8 s (omega arith)

  rest-long : length (drop 8 s) ≡ 8 * w
  rest-long = simp length-drop (omega arith)

-- The digits of the words of a line's digits.
pub digits-back : (w : ℕ) (s : List ℕ) → length s ≡ 8 * w → all_digits s ≡ true → word_digits (words_of w s) ≡ s
unfolding word_digits words_of
digits-back zero [] long d = refl
digits-back zero (b ∷ s) long d = absurd (omega arith)
digits-back (suc w) s long d =
    rw (
      subst (λ n. hex_digits n (hex_value (take 8 s)) ≡ take 8 s) (first-long w s long) (value-digits (take 8 s) (front-digits s d 8)),
      digits-back w (drop 8 s) (rest-long w s long) (behind-digits s d 8),
    )
    (take-append-drop 8 s)

pub words_small : (w : ℕ) (s : List ℕ) → length s ≡ 8 * w → all_digits s ≡ true → (k : ℕ) → get_or (words_of w s) k 0 < 2 ^ 32
unfolding words_of
words_small zero s long d k = omega arith
words_small (suc w) s long d zero = subst (λ n. hex_value (take 8 s) < 16 ^ n) (first-long w s long) (value-below (take 8 s) (front-digits s d 8))
words_small (suc w) s long d (suc k) = words_small w (drop 8 s) (rest-long w s long) (behind-digits s d 8) k

-- ---- lines told apart

pub no_lines : lines_in [] ≡ []
unfolding lines_in
no_lines = refl

module _ (b : ℕ) (s : List ℕ) where
  pub fed-line : b ≡ 10 → lines_in (b ∷ s) ≡ record { bytes = []; ended = true } ∷ lines_in s
  unfolding lines_in
  fed-line e = rw (eq-eqb b 10 e) refl

  pub begun-line : (b ≡ 10 → ⊥) → lines_in (b ∷ s) ≡ begun b (lines_in s)
  unfolding lines_in
  begun-line n = rw (ne_eqb b 10 n) refl

digits-rest : (b : ℕ) (s : List ℕ) → all_digits (b ∷ s) ≡ true → all_digits s ≡ true
unfolding all_digits
digits-rest b s d = and_right (ltb (digit_of b) 16) (all_digits s) d

-- Digits and a line feed are a line.
pub digits-line : (s rest : List ℕ) → all_digits s ≡ true → lines_in (s ++ (10 ∷ rest)) ≡ record { bytes = s; ended = true } ∷ lines_in rest
digits-line [] rest d = fed-line 10 rest refl
digits-line (b ∷ s) rest d =
    let digit : digit_of b < 16 = digit-there (b ∷ s) d 0 (omega arith) in
    begun-line b (s ++ (10 ∷ rest)) (λ e. let z : digit_of b ≡ 16 = below-digits b (omega arith) in omega arith)
    ∙ ap (begun b) (digits-line s rest (digits-rest b s d))

-- What stands behind a line that a line feed ends: the other lines.
pub record Behind (s : List ℕ) (l : TextLine) (later : List TextLine) : Type 0 where
  pub rest : List ℕ
  pub front : s ≡ l.bytes ++ (10 ∷ rest)
  pub others : later ≡ lines_in rest

-- The first line of bytes that are some.
pub record First (s : List ℕ) : Type 0 where
  pub line : TextLine
  pub later : List TextLine
  pub lines_are : lines_in s ≡ line ∷ later
  pub behind : line.ended ≡ true → Behind s line later

module _ (b : ℕ) where
  fed : (s : List ℕ) → b ≡ 10 → First (b ∷ s)
  fed s e = record {
    line = record { bytes = []; ended = true };
    later = lines_in s;
    lines_are = fed-line b s e;
    behind = λ _. record { rest = s; front = ap (λ x. x ∷ s) e; others = refl };
  }

  alone : (b ≡ 10 → ⊥) → First (b ∷ [])
  alone n = record {
    line = record { bytes = b ∷ []; ended = false };
    later = [];
    lines_are = begun-line b [] n ∙ ap (begun b) no_lines;
    behind = λ t. differ (sym t);
  }

  begins : (s : List ℕ) → (b ≡ 10 → ⊥) → First s → First (b ∷ s)
  begins s n f = record {
    line = record { bytes = b ∷ f.line.bytes; ended = f.line.ended };
    later = f.later;
    lines_are = begun-line b s n ∙ ap (begun b) f.lines_are;
    behind = λ t. let r = f.behind t in record { rest = r.rest; front = ap (λ x. b ∷ x) r.front; others = r.others };
  }

  one_more : (s : List ℕ) → ((b ≡ 10 → ⊥) → First (b ∷ s)) → First (b ∷ s)
  one_more s other = go (eqb b 10) refl
    where
      go : (t : Bool) → eqb b 10 ≡ t → First (b ∷ s)
      go true e = fed s (eqb-true b 10 e)
      go false e = other (eqb-false b 10 e)

pub first-line : (b : ℕ) (s : List ℕ) → First (b ∷ s)
first-line b [] = one_more b [] (alone b)
first-line b (c ∷ s) = one_more b (c ∷ s) (λ n. begins b (c ∷ s) n (first-line c s))

-- There are no more lines than bytes.
pub lines-few : (s : List ℕ) → length (lines_in s) ≤ length s
lines-few [] = rw no_lines (omega arith)
lines-few (b ∷ s) = go (lines_in s) (eqb b 10) refl refl (lines-few s)
  where
    go : (x : List TextLine) (t : Bool) → lines_in s ≡ x → eqb b 10 ≡ t → length (lines_in s) ≤ length s → length (lines_in (b ∷ s)) ≤ suc (length s)
    go x true f e l = rw (fed-line b s (eqb-true b 10 e)) (omega arith)
    go [] false f e l = rw (begun-line b s (eqb-false b 10 e), f) (omega arith)
    go (m ∷ ms) false f e l = rw (begun-line b s (eqb-false b 10 e), f) (let k : length (m ∷ ms) ≤ length s = rw f at l in omega arith)

-- ---- one line after the other

module _ (w room n : ℕ) where
  pub each_none : each_line w room n [] ≡ got []
  unfolding each_line
  each_none = refl

  module _ (l : TextLine) (ls : List TextLine) where
    pub each-bad : is_line w l ≡ false → each_line w room n (l ∷ ls) ≡ no 29 n
    unfolding each_line
    each-bad e = rw e refl

    pub each-full : is_line w l ≡ true → room < n → each_line w room n (l ∷ ls) ≡ no 8 n
    unfolding each_line
    each-full e h = rw (e, lt-leb n room h) refl

    pub each-good : is_line w l ≡ true → n ≤ room
        → each_line w room n (l ∷ ls) ≡ (each_line w room (n + 1) ls >>= λ ws. got (words_of w l.bytes ++ ws))
    unfolding each_line
    each-good e h = rw (e, le-leb n room h) refl

module _ (w room : ℕ) where
  -- What it says of a line with the number n, and of the lines behind it, that they are accepted.
  pub record Accepted (n : ℕ) (l : TextLine) (ls : List TextLine) (ws : List ℕ) : Type 0 where
    pub good : is_line w l ≡ true
    pub fits : n ≤ room
    pub others : List ℕ
    pub behind : each_line w room (n + 1) ls ≡ got others
    pub all : words_of w l.bytes ++ others ≡ ws

  pub accepted : (n : ℕ) (l : TextLine) (ls : List TextLine) (ws : List ℕ) → each_line w room n (l ∷ ls) ≡ got ws → Accepted n l ls ws
  unfolding each_line
  accepted n l ls ws e =
      let a = guard-got (is_line w l) _ _ _ e in
      let b = guard-got (leb n room) _ _ _ a.1 in
      let c = bind-got (each_line w room (n + 1) ls) _ b.1 in
      record { good = a.0; fits = leb-true n room b.0; others = c.0; behind = c.1; all = cc c.2 }

  -- Lines that are accepted are as many as the records.
  pub accepted-long : (ls : List TextLine) (n : ℕ) (ws : List ℕ) → each_line w room n ls ≡ got ws → length ws ≡ w * length ls
  accepted-long [] n ws e = let none : ws ≡ [] = cc (each_none w room n) in ap length none ∙ omega arith
  accepted-long (l ∷ ls) n ws e =
      let x = accepted n l ls ws e in
      let many = words-length w l.bytes in
      ap length (sym x.all) ∙ length-append (words_of w l.bytes) x.others ∙ omega (arith, many, accepted-long ls (n + 1) x.others x.behind)

-- What a good line is.
module _ (w : ℕ) (l : TextLine) where
  pub is-good : l.ended ≡ true → length l.bytes ≡ 8 * w → all_digits l.bytes ≡ true → is_line w l ≡ true
  unfolding is_line
  is-good e k d = rw (e, eq-eqb (length l.bytes) (8 * w) k, d) refl

  module _ (good : is_line w l ≡ true) where
    pub good-ended : l.ended ≡ true
    unfolding is_line
    good-ended = and_left l.ended (eqb (length l.bytes) (8 * w) && all_digits l.bytes) good

    pub good-long : length l.bytes ≡ 8 * w
    unfolding is_line
    good-long =
        eqb-true _ _ (and_left _ (all_digits l.bytes) (and_right l.ended (eqb (length l.bytes) (8 * w) && all_digits l.bytes) good))

    pub good-digits : all_digits l.bytes ≡ true
    unfolding is_line
    good-digits =
        and_right (eqb (length l.bytes) (8 * w)) _ (and_right l.ended (eqb (length l.bytes) (8 * w) && all_digits l.bytes) good)

-- ---- the lines of records

pub line-length : (ws : List ℕ) → length (line_of ws) ≡ 8 * length ws + 1
line-length ws = simp length-append (omega (arith, word-digits-length ws))

-- A line takes eight bytes for each word, and one.
pub lines-length : (w n : ℕ) (t : List ℕ) → w * n ≤ length t → length (lines_of w n t) ≡ (8 * w + 1) * n
unfolding lines_of
lines-length w zero t h = sym (mul-zero (8 * w + 1))
lines-length w (suc n) t h =
    let more = mul-suc w n in
    let front : length (take w t) ≡ w = length-take-le w t (omega (arith, more)) in
    length-append (line_of (take w t)) (lines_of w n (drop w t))
    ∙ omega (arith, line-length (take w t), front, lines-length w n (drop w t) (simp length-drop (omega (arith, more))), mul-suc (8 * w + 1) n)

-- One record more.
pub lines_next : (w i : ℕ) (t : List ℕ) → lines_of w (suc i) t ≡ lines_of w i t ++ line_of (part t (w * i) w)
unfolding lines_of
lines_next w zero t = rw (mul-zero w) (append-nil (line_of (take w t)))
lines_next w (suc i) t =
    let e : w * suc i ≡ w + w * i = omega (arith, mul-suc w i) in
    rw (e, ← drop-drop (w * i) w t, append_assoc (line_of (take w t)) (lines_of w i (drop w t)) (line_of (part (drop w t) (w * i) w)))
    (ap (λ x. line_of (take w t) ++ x) (lines_next w i (drop w t)))

-- Bytes to be written, by whether they fit.
module _ (bs : List ℕ) (room : ℕ) where
  pub fitting-fits : length bs ≤ room → fitting bs room ≡ got bs
  unfolding fitting
  fitting-fits h = rw (le-leb (length bs) room h) refl

  pub fitting-full : room < length bs → fitting bs room ≡ no output_full 0
  unfolding fitting
  fitting-full h = rw (lt-leb (length bs) room h) refl

  pub fitting-got : (cs : List ℕ) → fitting bs room ≡ got cs → (cs ≡ bs) × (length cs ≤ room)
  unfolding fitting
  fitting-got cs e =
      let a = guard-got (leb (length bs) room) _ _ _ e in
      let same : cs ≡ bs = cc a.1 in
      (same, rw same (leb-true (length bs) room a.0))
