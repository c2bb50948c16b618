-- What the contracts of the moves cite: lines taken and judged, the parent that a climb finds, and lines put.
-- Assumes nothing.
use Rattle.std.specs.Prelude.{ℕ, ◌+◌, ◌*◌, ◌≤◌, ◌<◌, ◌≡◌, List, Bool, leb, length}
use Rattle.form.specs.Answer.{Out, got, no, pick, over_limit, record_limit}
use Rattle.form.specs.Spans.{over}
use Rattle.form.specs.Table.{Head, Forest, none, node, size}
use Rattle.form.specs.Records.{SitsAt}
use Rattle.form.specs.Rows.{RowsAre}
use Rattle.form.specs.Stored.{bad_line, lines_in, lines_read}
use Rattle.form.specs.Moved.{Edition, eight, nine, other, words_in, word_in, tree_lines, movable, MoveIs}
use Rattle.table_stored.specs.Words.{edition_of, line_in, line_word, WordAt, Lined}

-- ---- lines taken and judged; `ninth` says which edition is moved, that whose records have a ninth word or the one before

-- What a bad line with that number gives: 29, or 9 where the lines are too many.
unfoldable pub bad_at : List ℕ → ℕ → Out ℕ
bad_at s number = pick (leb (length (lines_in s)) record_limit) (no bad_line number) (no over_limit 0)

-- The words that n lines are.
pub record AreWords (e : Edition) (s : List ℕ) (n : ℕ) (ws : List ℕ) : Type 0 where
  pub long : length ws ≡ words_in e * n
  pub each : (i : ℕ) → i < n → (k : ℕ) → k < words_in e → word_in e ws i k ≡ line_word e s i k

-- All lines are good: n of them, within the limit, and their words.
pub record Taken (e : Edition) (s : List ℕ) (n : ℕ) : Type 0 where
  pub few : n ≤ record_limit
  pub lined : Lined e s n
  pub ws : List ℕ
  pub read : lines_read (words_in e) record_limit s ≡ got ws
  pub words : AreWords e s n ws

-- What taking lines one by one answers.
abbrev pub TakenIs : Bool → List ℕ → Out ℕ → Type 0
TakenIs ninth s (got n) = Taken (edition_of ninth) s n
TakenIs ninth s (no n p) = lines_read (words_in (edition_of ninth)) record_limit s ≡ no n p

-- The lines are good, and their words form a table of their edition.
pub record Judged (ninth : Bool) (d : ℕ) (s : List ℕ) (n : ℕ) : Type 0 where
  pub limit : (ws : List ℕ) → lines_read (words_in (edition_of ninth)) record_limit s ≡ got ws → movable (edition_of ninth) d s ≡ got ws
  pub taken : Taken (edition_of ninth) s n
  pub rows : RowsAre d (line_word (edition_of ninth) s) ninth n

-- What the judgement answers: lines that may move, with room for as many of the other edition; or what the move answers, whatever the output.
abbrev pub JudgedIs : Bool → ℕ → List ℕ → ℕ → Out ℕ → Type 0
JudgedIs ninth d s room (got n) = Judged ninth d s n × (line_in (other (edition_of ninth)) * n ≤ room)
JudgedIs ninth d s room (no n p) = (o : List ℕ) → length o ≡ room → MoveIs (edition_of ninth) d s o (no n p) o

-- ---- parents

-- Record r is the last before i that has not ended there; for the root it is 0.
pub record Innermost (get : ℕ → ℕ → ℕ) (i r : ℕ) : Type 0 where
  pub root : i ≡ 0 → r ≡ 0
  pub before : 0 < i → r < i
  pub around : 0 < i → i < get r 7
  pub ended : (m : ℕ) → r < m → m < i → get m 7 ≤ i

-- What a climb from the record before i goes by: the end words of the records before i, and their parents, which stand in the output.
pub record Climbable (s : List ℕ) (i : ℕ) (o : List ℕ) : Type 0 where
  pub root : i < line_word eight s 0 7
  pub ends : (j : ℕ) → j < i → WordAt eight s j 7
  pub there : (j : ℕ) → j < i → WordAt nine o j 8
  pub parents : (j : ℕ) → j < i → Innermost (line_word eight s) j (line_word nine o j 8)

-- ---- lines put

-- The words of n lines are those of a tree.
pub record Planted (e : Edition) (s : List ℕ) (n : ℕ) : Type 0 where
  pub lined : Lined e s n
  pub head : Head
  pub inner : Forest
  pub sits : SitsAt (line_word e s) 0 (node head inner none)
  pub sized : 1 + size inner ≡ n

-- The other edition's lines of the tree that n lines hold stand in the output from 0 on.
abbrev pub PutIs : Edition → List ℕ → ℕ → List ℕ → List ℕ → Type 0
PutIs e s n o o' = (f : Forest) → SitsAt (line_word e s) 0 f → size f ≡ n → o' ≡ over o 0 (tree_lines (other e) f)
