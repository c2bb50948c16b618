-- Laws for the code that puts lines: digits one behind the other, lines one behind the other.
-- Assumes nothing.
use Prim.Native.Nat.{ℕ, zero, suc, ◌+◌, ◌*◌, ◌≤◌, ◌<◌}
use mathlib.Core.Path.{◌≡◌, refl, sym, ap, ◌∙◌}
use mathlib.Core.List.{List, [], ◌∷◌, ◌++◌, append_assoc}
use mathlib.Core.Bool.{true}
use native.Mathlib.Omega.{arith}
use lib.ListN.{length, get_or, set, take, drop, length-append}
use lib.Seq.{take-add, drop-drop, ext_get_or}
use Rattle.form.specs.Spans.{part, over}
use Rattle.form.specs.Stored.{hex_digits, word_digits, all_digits, hex_value, words_of}
use Rattle.form.proofs.Spans.{part_length}
use Rattle.form.proofs.Places.{part_at}
use Rattle.form.proofs.Table.{over-next}
use Rattle.form.proofs.Stored.{digits-length, digits_append, digits-back, words-length}
use Rattle.table_store.proofs.Reading.{part-part}
use Rattle.table_store.proofs.Writing.{put-behind}

-- ---- a line

-- A line feed behind what is put.
feed-behind : (o : List ℕ) (at : ℕ) (ws : List ℕ) (n : ℕ) → n ≡ at + length ws → n < length o → set (over o at ws) n 10 ≡ over o at (ws ++ (10 ∷ []))
feed-behind o at ws n e h = rw e (over-next o at ws 10 (rw e at h))

-- The digits that stay, and the line feed.
module _ (o s : List ℕ) (at from : ℕ) (there : from + 64 ≤ length s) (o₁ : List ℕ) (front : o₁ ≡ over o at (part s from 64)) where
  front_long : length (part s from 64) ≡ 64
  front_long = part_length s from 64 there

  pub down-line : at + 64 < length o → set o₁ (at + 64) 10 ≡ over o at (part s from 64 ++ (10 ∷ []))
  down-line room = rw front (feed-behind o at (part s from 64) (at + 64) (omega (arith, front_long)) room)

  -- Between them the digits of a word.
  module _ (v : ℕ) (o₂ : List ℕ) (word : o₂ ≡ over o₁ (at + 64) (hex_digits 8 v)) (room : at + 72 < length o) where
    line : List ℕ
    line = part s from 64 ++ hex_digits 8 v

    line-long : length line ≡ 72
    unfolding line
    line-long = length-append (part s from 64) (hex_digits 8 v) ∙ omega (arith, front_long, digits-length 8 v)

    word-put : o₂ ≡ over o at line
    unfolding line
    word-put = word ∙ rw front (put-behind o at (part s from 64) (at + 64) (hex_digits 8 v) (omega (arith, front_long)) (omega arith))

    pub up-line : set o₂ (at + 64 + 8) 10 ≡ over o at (part s from 64 ++ (hex_digits 8 v ++ (10 ∷ [])))
    unfolding line
    up-line =
        rw word-put (feed-behind o at line (at + 64 + 8) (omega (arith, line-long)) (omega arith))
        ∙ ap (over o at) (append_assoc (part s from 64) (hex_digits 8 v) (10 ∷ []))

-- ---- the digits that stay are those of the first eight words

-- Words of a line's digits by their number.
pub words-at : (w : ℕ) (s : List ℕ) (k : ℕ) → k < w → get_or (words_of w s) k 0 ≡ hex_value (part s (8 * k) 8)
unfolding words_of
words-at zero s k h = absurd (omega arith)
words-at (suc w) s zero h = refl
words-at (suc w) s (suc k) h =
    let e : 8 * suc k ≡ 8 + 8 * k = omega arith in
    words-at w (drop 8 s) k (omega arith) ∙ rw (e, ← drop-drop (8 * k) 8 s) refl

-- A span and the one behind it.
part-more : (s : List ℕ) (from a b : ℕ) → part s from (a + b) ≡ part s from a ++ part s (from + a) b
part-more s from a b = take-add a b (drop from s) ∙ ap (λ x. part s from a ++ take b x) (drop-drop a from s)

-- Where each word's digits are there, so are all.
all_digits_lem : (s : List ℕ) (from n : ℕ) → from + 8 * n ≤ length s → ((k : ℕ) → k < n → all_digits (part s (from + 8 * k) 8) ≡ true) → all_digits (part s from (8 * n)) ≡ true
unfolding all_digits
all_digits_lem s from zero h d = refl
all_digits_lem s from (suc n) h d =
    let e : 8 * suc n ≡ 8 * n + 8 = omega arith in
    rw (e, part-more s from (8 * n) 8)
    (digits_append (part s from (8 * n)) (part s (from + 8 * n) 8)
    ∙ rw (all_digits_lem s from n (omega arith) (λ k l. d k (omega arith)), d n (omega arith)) refl)

-- The digits of eight words, where each word is what its digits are.
pub front-digits : (ws : List ℕ) (at : ℕ) (s : List ℕ) (from : ℕ) → at + 8 ≤ length ws → from + 64 ≤ length s
    → ((k : ℕ) → k < 8 → all_digits (part s (from + 8 * k) 8) ≡ true)
    → ((k : ℕ) → k < 8 → get_or ws (at + k) 0 ≡ hex_value (part s (from + 8 * k) 8))
    → word_digits (part ws at 8) ≡ part s from 64
front-digits ws at s from h there digits same =
    let x = part s from 64 in
    let long : length x ≡ 64 = part_length s from 64 there in
    let w-long : length (part ws at 8) ≡ 8 = part_length ws at 8 h in
    let words : part ws at 8 ≡ words_of 8 x =
    ext_get_or 0 (part ws at 8) (words_of 8 x) (w-long ∙ sym (words-length 8 x))
    (λ k l.
    let l' : k < 8 = rw w-long at l in
    part_at ws at 8 k l' ∙ same k l' ∙ ap hex_value (sym (part-part s from 64 (8 * k) 8 there (omega arith))) ∙ sym (words-at 8 x k l')) in
    ap word_digits words ∙ digits-back 8 x long (all_digits_lem s from 8 there digits)
