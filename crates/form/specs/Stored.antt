-- Request [6]: a table stored as lines of lowercase hexadecimal, one record a line; what writing the lines gives (9, 10, 13), and what reading
-- them back gives (9, then line by line 29 and 8). Lines are told over the number w of words in a record.
-- Assumes nothing.
use Rattle.std.specs.Prelude.{ℕ, zero, suc, ◌+◌, ◌-◌, ◌*◌, ◌/◌, ◌%◌, ◌≡◌, Bool, true, false, ◌&&◌, length, take, drop, replicate, ltb, leb, eqb}
use mathlib.Core.List.{List, [], ◌∷◌, ◌++◌, foldl}
use Rattle.form.specs.Answer.{Out, got, no, ◌>>=◌, ◌>>◌, guard, pick, table_full, over_limit, no_table, output_full, record_limit}
use Rattle.form.specs.Spans.{over}
use Rattle.form.specs.Tables.{IsTable, Within}
use Rattle.form.specs.Writing.{Gives}

-- ---- the refusal of [6], by name

abbrev pub bad_line : ℕ
bad_line = 29

-- ---- the lines of a table

-- The byte that ends a line.
abbrev pub line_feed : ℕ
line_feed = 10

-- The digit of a number below 16: 0 to 9 from byte 48 on, then a to f from byte 97 on.
unfoldable pub hex_digit : ℕ → ℕ
hex_digit d = pick (ltb d 10) (48 + d) (97 + (d - 10))

-- The n lowest digits of a number, the highest first.
unfoldable pub hex_digits : ℕ → ℕ → List ℕ
hex_digits zero v = []
hex_digits (suc n) v = hex_digits n (v / 16) ++ (hex_digit (v % 16) ∷ [])

-- The digits of some words, eight for each.
unfoldable pub word_digits : List ℕ → List ℕ
word_digits [] = []
word_digits (v ∷ vs) = hex_digits 8 v ++ word_digits vs

-- The line of a record.
abbrev pub line_of : List ℕ → List ℕ
line_of ws = word_digits ws ++ (line_feed ∷ [])

-- The lines of n records, of w words each.
unfoldable pub lines_of : ℕ → ℕ → List ℕ → List ℕ
lines_of w zero t = []
lines_of w (suc n) t = line_of (take w t) ++ lines_of w n (drop w t)

-- ---- writing them

-- The lines of a table, whose records have nine words.
abbrev pub table_lines : List ℕ → List ℕ
table_lines t = lines_of 9 (length t / 9) t

-- Bytes to be written, with so much room (13).
unfoldable pub fitting : List ℕ → ℕ → Out (List ℕ)
fitting bs room = do
  guard (leb (length bs) room) output_full 0
  got bs

-- What writing the lines of a table gives.
abbrev pub storing : List ℕ → ℕ → Out (List ℕ)
storing t room = fitting (table_lines t) room

-- The promise of writing lines, over a document of d bytes: a limit first (9), then whether the words form a table (10), then its lines.
pub record WriteLinesIs (d : ℕ) (t o : List ℕ) (answer : Out ℕ) (o' : List ℕ) : Type 0 where
  pub large : (Within d t → ⊥) → Gives (no over_limit 0) o answer o'
  pub unfit : Within d t → (IsTable d t → ⊥) → Gives (no no_table 0) o answer o'
  pub fit : Within d t → IsTable d t → Gives (storing t (length o)) o answer o'

-- ---- reading them back

-- A line as it stands: its bytes without the line feed, and whether a line feed ends it.
pub record TextLine : Type 0 where
  pub bytes : List ℕ
  pub ended : Bool

-- Lines with one byte before them: it begins the first of them, and alone it is an unended line.
abbrev pub begun : ℕ → List TextLine → List TextLine
begun b [] = record { bytes = b ∷ []; ended = false } ∷ []
begun b (l ∷ ls) = record { bytes = b ∷ l.bytes; ended = l.ended } ∷ ls

-- The lines that bytes are: each line feed ends one, and what stands behind the last line feed is an unended one.
unfoldable pub lines_in : List ℕ → List TextLine
lines_in [] = []
lines_in (b ∷ bs) = pick (eqb b line_feed) (record { bytes = []; ended = true } ∷ lines_in bs) (begun b (lines_in bs))

-- The value of a digit, 0 to 9 or a to f; 16 for any other byte, and so for a capital.
unfoldable pub digit_of : ℕ → ℕ
digit_of b = pick (ltb b 48) 16 (pick (ltb b 58) (b - 48) (pick (ltb b 97) 16 (pick (ltb b 103) (b - 97 + 10) 16)))

-- Whether each byte is a digit.
unfoldable pub all_digits : List ℕ → Bool
all_digits [] = true
all_digits (b ∷ bs) = ltb (digit_of b) 16 && all_digits bs

-- The number that digits are, the highest first.
unfoldable pub hex_value : List ℕ → ℕ
hex_value = foldl (λ n b. n * 16 + digit_of b) 0

-- Whether a line is good: ended, and w words of eight digits each.
unfoldable pub is_line : ℕ → TextLine → Bool
is_line w l = l.ended && (eqb (length l.bytes) (8 * w) && all_digits l.bytes)

-- The w words of a line's digits.
unfoldable pub words_of : ℕ → List ℕ → List ℕ
words_of zero s = []
words_of (suc w) s = hex_value (take 8 s) ∷ words_of w (drop 8 s)

-- The words of lines, the first of which has the number n, with room for so many records: each must be good (29), then have room (8).
unfoldable pub each_line : ℕ → ℕ → ℕ → List TextLine → Out (List ℕ)
each_line w room n [] = got []
each_line w room n (l ∷ ls) = do
  guard (is_line w l) bad_line n
  guard (leb n room) table_full n
  ws ← each_line w room (n + 1) ls
  got (words_of w l.bytes ++ ws)

-- What reading lines back gives: the limit (9), then line by line, the first having the number 1.
unfoldable pub lines_read : ℕ → ℕ → List ℕ → Out (List ℕ)
lines_read w room s = do
  guard (leb (length (lines_in s)) record_limit) over_limit 0
  each_line w room 1 (lines_in s)

-- The lines s read back into a table of words t, whose records have nine.
abbrev pub reading_lines : List ℕ → List ℕ → Out (List ℕ)
reading_lines s t = lines_read 9 (length t / 9) s

-- What reading lines answers: the number of records.
abbrev pub records_of : Out (List ℕ) → Out ℕ
records_of (got ws) = got (length ws / 9)
records_of (no n p) = no n p

-- The table after that: the words read from 0 on and the rest as it was; after a refusal all zero.
abbrev pub words_after : Out (List ℕ) → List ℕ → List ℕ
words_after (got ws) t = over t 0 ws
words_after (no n p) t = replicate (length t) 0

-- The promise of reading lines: the answer, and every word of the table.
pub record ReadLinesIs (s t : List ℕ) (answer : Out ℕ) (t' : List ℕ) : Type 0 where
  pub answer_is : answer ≡ records_of (reading_lines s t)
  pub table_is : t' ≡ words_after (reading_lines s t) t
