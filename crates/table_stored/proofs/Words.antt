-- Words that stand on lines, in either edition: they are there, they are small, and there is none past the last line.
-- Assumes nothing.
use Prim.Native.Nat.{ℕ, ◌+◌, ◌*◌, ◌^◌, ◌≤◌, ◌<◌}
use mathlib.Core.Path.{◌≡◌, ap, ◌∙◌, subst}
use mathlib.Core.List.{List}
use mathlib.Core.Bool.{Bool, true, false}
use native.Mathlib.Omega.{arith}
use lib.ListN.{length, take, drop_of_length-le}
use Rattle.form.specs.Spans.{part}
use Rattle.form.specs.Stored.{hex_value}
use Rattle.form.specs.Moved.{Edition, eight, nine}
use Rattle.form.proofs.Spans.{part_length}
use Rattle.form.proofs.Stored.{value_none, value-below}
use Rattle.table_stored.specs.Words.{edition_of, line_in, line_word, WordAt, LineAt, Lined}

-- The first eight words of a line are there in either edition.
pub word-there : (e : Edition) (s : List ℕ) (n k : ℕ) → LineAt e s n → k < 8 → WordAt e s n k
word-there eight s n k line h = line k h
word-there nine s n k line h = line k (omega arith)

-- So are those of each of n lines.
pub lined-word : (e : Edition) (s : List ℕ) (n i k : ℕ) → Lined e s n → i < n → k < 8 → WordAt e s i k
lined-word e s n i k lined h = word-there e s i k (lined.line i h)

-- The parent's word is there in the edition that has one.
pub parent-there : (up : Bool) (s : List ℕ) (n : ℕ) → LineAt (edition_of up) s n → up ≡ true → WordAt (edition_of up) s n 8
parent-there true s n line e = line 8 (omega arith)
parent-there false s n line e = absurd (let z : ◌≡◌ {A = ℕ} 0 1 = cc in omega arith)

-- Eight digits are below 2 ^ 32.
pub word_small : (e : Edition) (s : List ℕ) (n k : ℕ) → WordAt e s n k → line_word e s n k < 2 ^ 32
word_small e s n k w =
    let at = line_in e * n + 8 * k in
    subst (λ m. line_word e s n k < 16 ^ m) (part_length s at 8 w.fits) (value-below (part s at 8) w.digits)

-- The number of a line is less than the number of bytes.
pub line_low : (e : Edition) (s : List ℕ) (n : ℕ) → LineAt e s n → n < length s
line_low eight s n line = omega (arith, (line 0 (omega arith)).fits)
line_low nine s n line = omega (arith, (line 0 (omega arith)).fits)

-- Past the last line there are no digits, and the word that no digits are is 0.
pub word-past : (e : Edition) (s : List ℕ) (n : ℕ) → Lined e s n → line_word e s n 0 ≡ 0
word-past e s n lined =
    let at = line_in e * n + 8 * 0 in
    let past : length s ≤ at = omega (arith, lined.long) in
    ap (λ x. hex_value (take 8 x)) (drop_of_length-le s past) ∙ value_none
