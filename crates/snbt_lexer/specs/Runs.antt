-- What the inner functions promise: runs of ordinary characters, and numbers that stay small.
-- Assumes nothing.
use Rattle.std.specs.Prelude.{ℕ, ◌+◌, ◌≤◌, Bool, false, ◌&&◌, ◌||◌, List, [], ◌∷◌, leb, drop}
use Rattle.form.specs.Answer.{pick}
use Rattle.snbt_form.specs.Lexing.{Scan}

-- A byte from a up to z.
abbrev pub between : ℕ → ℕ → ℕ → Bool
between a z b = leb a b && leb b z

-- A byte from `-` to `9`, from `<` to `Z` or from `^` to `z`: a character by itself, and neither blank, quote, backslash, brace nor in any
-- set of stop characters (rule 11).
abbrev pub ordinary : ℕ → Bool
ordinary b = between 45 57 b || (between 60 90 b || between 94 122 b)

-- The first place, counted from i on, whose byte is not ordinary.
unfoldable pub run_by : List ℕ → ℕ → ℕ
run_by [] i = i
run_by (b ∷ l) i = pick (ordinary b) (run_by l (i + 1)) i

-- Where the run of ordinary characters from a place of a text on ends.
unfoldable pub run_end : List ℕ → ℕ → ℕ
run_end t i = run_by (drop i t) i

-- A token with n characters more that end at j: the backslash's effect ends.
abbrev pub extended : Scan → ℕ → ℕ → Scan
extended s n j = record {
  curly = s.curly;
  square = s.square;
  single = s.single;
  double = s.double;
  escape = false;
  end = j;
  width = s.width + n;
}

-- A scan's numbers are at most the place.
pub record Bounded (s : Scan) (i : ℕ) : Type 0 where
  pub curly : s.curly ≤ i
  pub square : s.square ≤ i
  pub end : s.end ≤ i
  pub width : s.width ≤ i
