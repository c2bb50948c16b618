-- Lines from standard input. No contract can speak of what is read, so these promises say what holds whatever it is: where a line stands, that it
-- is a line, and what else of the lent buffers has changed. Which bytes it has is tested by running.
-- Assumes nothing.
use Rattle.std.specs.Prelude.{ℕ, ◌≤◌, ◌<◌, Bool, ◌≡◌, List, length, get_or, drop, eqb}
use Rattle.form.specs.Answer.{pick}
use Rattle.lines.specs.declared.Input.{Input}
use Rattle.lines.specs.declared.Line.{Line}

-- The input before anything is read.
abbrev pub unread : Input
unread = record { at = 0; have = 0 }

-- What is left of a chunk lies in it.
pub record InChunk (chunk : List ℕ) (input : Input) : Type 0 where
  pub order : input.at ≤ input.have
  pub within : input.have ≤ length chunk

-- The first n bytes of a buffer are of one line, without its line feed, and behind them the buffer is as it was.
pub record LineIn (before after : List ℕ) (n : ℕ) : Type 0 where
  pub fits : n ≤ length before
  pub plain : (k : ℕ) → k < n → get_or after k 0 ≡ 10 → ⊥
  pub rest : drop n after ≡ drop n before

-- What holds of the next line: it stands in its buffer; or as much of it as there is room, where it is too long; at the end nothing of the buffer has changed.
abbrev pub NextLine : List ℕ → List ℕ → List ℕ → Line → Type 0
NextLine chunk before after (Line.Got n input) = LineIn before after n × InChunk chunk input
NextLine chunk before after (Line.Long input) = LineIn before after (length before) × InChunk chunk input
NextLine chunk before after Line.End = after ≡ before

-- A line that a line feed ends.
abbrev pub ended_line : ℕ → Bool → Input → Line
ended_line n long input = pick long (Line.Long input) (Line.Got n input)

-- A line that the end of the input ends: none where it is empty.
abbrev pub last_line : ℕ → Bool → Input → Line
last_line n long input = pick long (Line.Long input) (pick (eqb n 0) Line.End (Line.Got n input))
