-- What the contracts on the words of stored lines cite: where a word stands, by the edition of the lines, and that lines are there.
-- Assumes nothing.
use Rattle.std.specs.Prelude.{ℕ, ◌+◌, ◌*◌, ◌≤◌, ◌<◌, ◌≡◌, List, Bool, true, false, length}
use Rattle.form.specs.Spans.{part}
use Rattle.form.specs.Stored.{all_digits, hex_value}
use Rattle.form.specs.Moved.{Edition, eight, nine, words_in}

-- The edition whose records have nine words, or the one before it.
abbrev pub edition_of : Bool → Edition
edition_of true = nine
edition_of false = eight

-- The bytes of a line: eight digits a word, and the line feed.
abbrev pub line_in : Edition → ℕ
line_in eight = 65
line_in nine = 73

-- Word k of line n.
abbrev pub line_word : Edition → List ℕ → ℕ → ℕ → ℕ
line_word e s n k = hex_value (part s (line_in e * n + 8 * k) 8)

-- The digits of word k of line n are there.
pub record WordAt (e : Edition) (s : List ℕ) (n k : ℕ) : Type 0 where
  pub fits : line_in e * n + 8 * k + 8 ≤ length s
  pub digits : all_digits (part s (line_in e * n + 8 * k) 8) ≡ true

-- Those of each word of line n are.
abbrev pub LineAt : Edition → List ℕ → ℕ → Type 0
LineAt e s n = (k : ℕ) → k < words_in e → WordAt e s n k

-- The bytes are n lines, whose digits are there.
pub record Lined (e : Edition) (s : List ℕ) (n : ℕ) : Type 0 where
  pub long : length s ≡ line_in e * n
  pub line : (i : ℕ) → i < n → LineAt e s i
