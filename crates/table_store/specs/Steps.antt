-- What the contracts of stored lines cite: the answer as document 02 has it, and lines as the code comes upon them.
-- Assumes nothing.
use Rattle.std.specs.Prelude.{Result, ℕ, ◌+◌, ◌*◌, ◌/◌, ◌≤◌, ◌≡◌, List, [], ◌∷◌, Bool, true, ◌&&◌, length, get_or, take, drop, ltb, eqb}
use Rattle.form.specs.Answer.{Out, got, no, pick}
use Rattle.form.specs.Refusals.{out_of}
use Rattle.form.specs.declared.refusals.Refused.{Refused}
use Rattle.form.specs.Spans.{over}
use Rattle.form.specs.Stored.{TextLine, lines_in, line_feed, all_digits, is_line, each_line, records_of}

-- The answer in document 02's form.
abbrev pub answer_out : Result ℕ Refused → Out ℕ
answer_out r = out_of (λ n. n) r

-- How many line feeds there are.
unfoldable pub feeds : List ℕ → ℕ
feeds [] = 0
feeds (b ∷ bs) = pick (eqb b line_feed) 1 0 + feeds bs

-- Whether a line feed stands at a place.
unfoldable pub fed_at : List ℕ → ℕ → Bool
fed_at s at = ltb at (length s) && eqb (get_or s at 0) line_feed

-- A good line of w words at the front of some bytes takes eight of them for each word, and one.
pub record GoodLine (w : ℕ) (s : List ℕ) (line : TextLine) (later : List TextLine) : Type 0 where
  pub long : 8 * w + 1 ≤ length s
  pub digits : all_digits (take (8 * w) s) ≡ true
  pub bytes_are : line.bytes ≡ take (8 * w) s
  pub goes_on : later ≡ lines_in (drop (8 * w + 1) s)

-- The first of the lines that bytes are, and whether it is good, of w words.
pub record FirstLine (w : ℕ) (s : List ℕ) (good : Bool) : Type 0 where
  pub line : TextLine
  pub later : List TextLine
  pub lines_are : lines_in s ≡ line ∷ later
  pub told : good ≡ is_line w line
  pub front : good ≡ true → GoodLine w s line later

-- The table after line by line: the words read from 0 on and the rest as it was; after a refusal only its length is told.
abbrev pub Put : Out (List ℕ) → List ℕ → List ℕ → Type 0
Put (got ws) t t' = t' ≡ over t 0 ws
Put (no n p) t t' = length t' ≡ length t

-- What taking lines one by one answers, and leaves in the table.
pub record TakenIs (s t : List ℕ) (answer : Out ℕ) (t' : List ℕ) : Type 0 where
  pub answer_is : answer ≡ records_of (each_line 9 (length t / 9) 1 (lines_in s))
  pub put : Put (each_line 9 (length t / 9) 1 (lines_in s)) t t'
