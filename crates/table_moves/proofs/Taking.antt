-- Laws for the code that takes lines one by one: after n good lines of w words the answer is what the others add to their words.
-- Assumes nothing.
use Prim.Native.Nat.{ℕ, ◌+◌, ◌*◌, ◌≤◌, ◌<◌}
use mathlib.Core.Path.{◌≡◌, refl, sym, ap, subst, ◌∙◌}
use mathlib.Core.Logic.{◌⊎◌, inl, inr, ⊎_elim}
use mathlib.Core.List.{List, [], ◌∷◌, ◌++◌, append-nil}
use mathlib.Core.Bool.{Bool, true, false}
use native.Mathlib.Omega.{arith}
use native.Mathlib.Nat.{mul-zero, mul-add, mul-one, mul-le-mul_left}
use borrow.Author.Tests.{le-leb, lt-leb}
use lib.ListN.{length, get_or, drop, length-append, length-drop, drop_of_length-le, get_or-append}
use lib.Seq.{drop_at, drop-drop, get_or-drop}
use Rattle.form.specs.Answer.{Out, got, no, ◌>>=◌, record_limit}
use Rattle.form.specs.Spans.{part}
use Rattle.form.specs.Stored.{lines_in, all_digits, hex_value, words_of, each_line, lines_read}
use Rattle.form.specs.Moved.{Edition, eight, nine, words_in}
use Rattle.form.proofs.Picks.{lt-or}
use Rattle.form.proofs.Stored.{span-digits, words-length, no_lines, first-line, each_none, each-bad, each-good}
use Rattle.table_store.specs.Steps.{FirstLine}
use Rattle.table_store.proofs.Reading.{part-part}
use Rattle.table_store.proofs.Taking.{then_same, then-more}
use Rattle.table_stored.specs.Words.{edition_of, line_in}
use Rattle.table_moves.specs.Steps.{bad_at, Taken, TakenIs}
use Rattle.table_moves.proofs.Putting.{words-at}

-- ---- all lines, by how many they are

module _ (s : List ℕ) (number : ℕ) where
  pub bad-many : record_limit < length (lines_in s) → no 9 0 ≡ bad_at s number
  unfolding bad_at
  bad-many h = rw (lt-leb (length (lines_in s)) record_limit h) refl

  pub bad-few : length (lines_in s) ≤ record_limit → no 29 number ≡ bad_at s number
  unfolding bad_at
  bad-few h = rw (le-leb (length (lines_in s)) record_limit h) refl

module _ (w : ℕ) (s : List ℕ) where
  read-many : record_limit < length (lines_in s) → lines_read w record_limit s ≡ no 9 0
  unfolding lines_read
  read-many h = rw (lt-leb (length (lines_in s)) record_limit h) refl

  read-few : length (lines_in s) ≤ record_limit → lines_read w record_limit s ≡ each_line w record_limit 1 (lines_in s)
  unfolding lines_read
  read-few h = rw (le-leb (length (lines_in s)) record_limit h) refl

-- Bytes that are some begin a line.
some-line : (s : List ℕ) → 0 < length s → 0 < length (lines_in s)
some-line [] h = absurd (omega arith)
some-line (b ∷ s) h = rw (first-line b s).lines_are (omega arith)

-- ---- line by line

-- What the lines from n on give, with the words before them.
abbrev onwards : ℕ → List ℕ → List ℕ → ℕ → Out (List ℕ)
onwards w s ws n = each_line w record_limit (n + 1) (lines_in (drop ((8 * w + 1) * n) s)) >>= λ vs. got (ws ++ vs)

-- Word k of line i.
abbrev place : ℕ → ℕ → ℕ → ℕ
place w i k = (8 * w + 1) * i + 8 * k

-- After n good lines.
pub record Sofar (w : ℕ) (s : List ℕ) (n : ℕ) : Type 0 where
  pub begun : (8 * w + 1) * n ≤ length s
  pub few : n ≤ record_limit
  pub fits : (i : ℕ) → i < n → (k : ℕ) → k < w → place w i k + 8 ≤ length s
  pub digits : (i : ℕ) → i < n → (k : ℕ) → k < w → all_digits (part s (place w i k) 8) ≡ true
  pub ws : List ℕ
  pub long : length ws ≡ w * n
  pub each : (i : ℕ) → i < n → (k : ℕ) → k < w → get_or ws (w * i + k) 0 ≡ hex_value (part s (place w i k) 8)
  pub many : length (lines_in s) ≡ n + length (lines_in (drop ((8 * w + 1) * n) s))
  pub is : each_line w record_limit 1 (lines_in s) ≡ onwards w s ws n

pub sofar-start : (w : ℕ) (s : List ℕ) → Sofar w s 0
sofar-start w s = record {
  begun = omega arith;
  few = omega arith;
  fits = λ i h k l. absurd (omega arith);
  digits = λ i h k l. absurd (omega arith);
  ws = [];
  long = sym (mul-zero w);
  each = λ i h k l. absurd (omega arith);
  many = rw (mul-zero (8 * w + 1)) (omega arith);
  is = rw (mul-zero (8 * w + 1)) (then_same (each_line w record_limit 1 (lines_in s)));
}

-- A number below the next is the last or below it.
last_or : (i n : ℕ) → i < n + 1 → (i ≡ n) ⊎ (i < n)
last_or i n h = ⊎_elim inr (λ l. inl (omega arith)) (lt-or i n)

module _ (w : ℕ) (s : List ℕ) (n : ℕ) (f : Sofar w s n) where
  abbrev at : ℕ
  at = (8 * w + 1) * n

  -- More lines than the limit leaves.
  pub sofar-over : n ≡ record_limit → at < length s → lines_read w record_limit s ≡ no 9 0
  sofar-over e h =
      let one : 0 < length (lines_in (drop at s)) = some-line (drop at s) (rw (length-drop at s) (omega arith)) in
      read-many w s (omega (arith, f.many, one))

  -- A bad one, within the limit.
  pub sofar-bad : length (lines_in s) ≤ record_limit → FirstLine w (drop at s) false → lines_read w record_limit s ≡ no 29 (n + 1)
  sofar-bad few l =
      read-few w s few
      ∙ f.is
      ∙ ap (λ o. o >>= λ vs. got (f.ws ++ vs)) (ap (each_line w record_limit (n + 1)) l.lines_are ∙ each-bad w record_limit (n + 1) l.line l.later (sym l.told))

  -- None: all are taken.
  module _ (h : length s ≤ at) where
    none_left : lines_in (drop at s) ≡ []
    none_left = ap lines_in (drop_of_length-le s h) ∙ no_lines

    pub sofar-end : lines_read w record_limit s ≡ got f.ws
    sofar-end =
        read-few w s (omega (arith, f.many, ap length none_left, f.few))
        ∙ f.is
        ∙ rw (none_left, each_none w record_limit (n + 1)) (ap got (append-nil f.ws))

  -- A good one.
  module _ (l : FirstLine w (drop at s) true) (room : n < record_limit) where
    abbrev line : List ℕ
    line = part s at (8 * w)

    next_place : (8 * w + 1) * (n + 1) ≡ at + (8 * w + 1)
    next_place = mul-add (8 * w + 1) n 1 ∙ ap (λ x. at + x) (mul-one (8 * w + 1))

    there : at + (8 * w + 1) ≤ length s
    there = omega (arith, (l.front refl).long, length-drop at s, f.begun)

    behind : l.later ≡ lines_in (drop ((8 * w + 1) * (n + 1)) s)
    behind = (l.front refl).goes_on ∙ ap lines_in (drop-drop (8 * w + 1) at s ∙ ap (λ i. drop i s) (sym next_place))

    -- A word of the line.
    word_fits : (k : ℕ) → k < w → at + 8 * k + 8 ≤ length s
    word_fits k h = omega (arith, there)

    word-part : (k : ℕ) → k < w → part line (8 * k) 8 ≡ part s (at + 8 * k) 8
    word-part k h = part-part s at (8 * w) (8 * k) 8 (omega (arith, there)) (omega arith)

    word-digits : (k : ℕ) → k < w → all_digits (part s (at + 8 * k) 8) ≡ true
    word-digits k h = subst (λ x. all_digits x ≡ true) (word-part k h) (span-digits line (l.front refl).digits (8 * k) 8)

    -- The words so far and the line's.
    word-before : (i : ℕ) → i < n → (k : ℕ) → k < w → get_or (f.ws ++ words_of w line) (w * i + k) 0 ≡ hex_value (part s (place w i k) 8)
    word-before i h k m =
        let below : w * (i + 1) ≤ w * n = mul-le-mul_left w (omega arith) in
        get_or-append f.ws (words_of w line) 0 (w * i + k) (rw f.long (omega (arith, below, mul-add w i 1, mul-one w))) ∙ f.each i h k m

    word-here : (k : ℕ) → k < w → get_or (f.ws ++ words_of w line) (w * n + k) 0 ≡ hex_value (part s (place w n k) 8)
    word-here k h =
        sym (get_or-drop (w * n) (f.ws ++ words_of w line) k 0)
        ∙ ap (λ x. get_or x k 0) (drop_at f.ws (words_of w line) (w * n) f.long)
        ∙ words-at w line k h
        ∙ ap hex_value (word-part k h)

    -- The rest is the line's words and what stands behind it.
    rest-next : each_line w record_limit (n + 1) (lines_in (drop at s)) ≡ onwards w s (words_of w line) (n + 1)
    rest-next =
        ap (each_line w record_limit (n + 1)) l.lines_are
        ∙ each-good w record_limit (n + 1) l.line l.later (sym l.told) (omega arith)
        ∙ rw ((l.front refl).bytes_are, behind) refl

    pub sofar-next : Sofar w s (n + 1)
    sofar-next = record {
      begun = omega (arith, next_place, there);
      few = omega arith;
      fits = λ i h k m. ⊎_elim (λ e. subst (λ x. place w x k + 8 ≤ length s) (sym e) (word_fits k m)) (λ b. f.fits i b k m) (last_or i n h);
      digits = λ i h k m. ⊎_elim (λ e. subst (λ x. all_digits (part s (place w x k) 8) ≡ true) (sym e) (word-digits k m)) (λ b. f.digits i b k m) (last_or i n h);
      ws = f.ws ++ words_of w line;
      long = length-append f.ws (words_of w line) ∙ omega (arith, f.long, words-length w line, mul-add w n 1, mul-one w);
      each = λ i h k m.
          ⊎_elim
          (λ e. subst (λ x. get_or (f.ws ++ words_of w line) (w * x + k) 0 ≡ hex_value (part s (place w x k) 8)) (sym e) (word-here k m))
          (λ b. word-before i b k m)
          (last_or i n h);
      many = f.many ∙ omega (arith, ap length l.lines_are, ap length behind);
      is =
          f.is
          ∙ ap (λ o. o >>= λ vs. got (f.ws ++ vs)) rest-next
          ∙ then-more (each_line w record_limit (n + 1 + 1) (lines_in (drop ((8 * w + 1) * (n + 1)) s))) (words_of w line) f.ws;
    }

-- ---- what is answered

-- The bytes of a line by its words.
pub line-width : (e : Edition) → line_in e ≡ 8 * words_in e + 1
line-width eight = refl
line-width nine = refl

pub words-few : (e : Edition) → words_in e ≤ 9
words-few eight = omega arith
words-few nine = omega arith

-- All lines are good.
pub all-taken : (e : Edition) (s : List ℕ) (n : ℕ) (f : Sofar (words_in e) s n) → length s ≤ (8 * words_in e + 1) * n → Taken e s n
all-taken eight s n f h = record {
  few = f.few;
  lined = record { long = omega (arith, f.begun); line = λ i l k m. record { fits = f.fits i l k m; digits = f.digits i l k m } };
  ws = f.ws;
  read = sofar-end 8 s n f h;
  words = record { long = f.long; each = f.each };
}
all-taken nine s n f h = record {
  few = f.few;
  lined = record { long = omega (arith, f.begun); line = λ i l k m. record { fits = f.fits i l k m; digits = f.digits i l k m } };
  ws = f.ws;
  read = sofar-end 9 s n f h;
  words = record { long = f.long; each = f.each };
}

-- One is bad.
pub bad-taken : (ninth : Bool) (s : List ℕ) (n : ℕ) (f : Sofar (words_in (edition_of ninth)) s n)
    → FirstLine (words_in (edition_of ninth)) (drop ((8 * words_in (edition_of ninth) + 1) * n) s) false
    → TakenIs ninth s (bad_at s (n + 1))
bad-taken ninth s n f l =
    ⊎_elim
    (λ h. subst (TakenIs ninth s) (bad-many s (n + 1) h) (read-many (words_in (edition_of ninth)) s h))
    (λ h. subst (TakenIs ninth s) (bad-few s (n + 1) h) (sofar-bad (words_in (edition_of ninth)) s n f h l))
    (lt-or record_limit (length (lines_in s)))
