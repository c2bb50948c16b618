-- Request [8]: the lines of a table moved from one edition to the other, over a document of d bytes; what a move gives (9, 29, 10, 13).
-- Assumes nothing.
use Rattle.std.specs.Prelude.{ℕ, ◌≡◌, List, Bool, true, false, leb, length}
use Rattle.form.specs.Answer.{Out, got, no, ◌>>◌, guard, over_limit, no_table, document_limit, record_limit}
use Rattle.form.specs.Table.{Forest, none, node, size, word, flat}
use Rattle.form.specs.Tables.{IsTable}
use Rattle.form.specs.Eight.{old_word, old_flat, OldTable}
use Rattle.form.specs.Stored.{lines_of, lines_read, fitting}
use Rattle.form.specs.Writing.{Gives}

-- The two editions: records of eight words, as in 01, and of nine, the last of which names the parent ([7]).
pub data Edition : Type 0 where
  eight : Edition
  nine : Edition

abbrev pub other : Edition → Edition
other eight = nine
other nine = eight

-- How many words a record has.
abbrev pub words_in : Edition → ℕ
words_in eight = 8
words_in nine = 9

-- Whether records name their parents.
abbrev pub parented : Edition → Bool
parented eight = false
parented nine = true

-- Word k of record n.
abbrev pub word_in : Edition → List ℕ → ℕ → ℕ → ℕ
word_in eight t n k = old_word t n k
word_in nine t n k = word t n k

-- The words of a tree of records, the first of which is the root.
abbrev pub flat_in : Edition → Forest → List ℕ
flat_in eight f = old_flat 0 f
flat_in nine f = flat 0 0 f

-- Words form a table of an edition,
abbrev pub Forms : Edition → ℕ → List ℕ → Type 0
Forms eight d ws = OldTable d ws
Forms nine d ws = IsTable d ws

-- and then stand for this tree.
abbrev pub tree_in : (e : Edition) (d : ℕ) (ws : List ℕ) → Forms e d ws → Forest
tree_in eight d ws t = node t.head t.inner none
tree_in nine d ws t = node t.head t.inner none

-- The lines of a tree.
abbrev pub tree_lines : Edition → Forest → List ℕ
tree_lines e f = lines_of (words_in e) (size f) (flat_in e f)

-- The words of lines that are to move: the limits of the document and of the lines (9), then line by line the width that is moved (29). There
-- is room for every line that the limit leaves.
unfoldable pub movable : Edition → ℕ → List ℕ → Out (List ℕ)
movable e d s = do
  guard (leb d document_limit) over_limit 0
  lines_read (words_in e) record_limit s

-- The promise of a move from edition e: the words of the lines (9, 29), then whether they form a table (10), then the other edition's lines of
-- the same tree, where there is room (13).
pub record MoveIs (e : Edition) (d : ℕ) (s o : List ℕ) (answer : Out ℕ) (o' : List ℕ) : Type 0 where
  pub bad : (n p : ℕ) → movable e d s ≡ no n p → Gives (no n p) o answer o'
  pub unfit : (ws : List ℕ) → movable e d s ≡ got ws → (Forms e d ws → ⊥) → Gives (no no_table 0) o answer o'
  pub fit : (ws : List ℕ) → movable e d s ≡ got ws → (t : Forms e d ws) → Gives (fitting (tree_lines (other e) (tree_in e d ws t)) (length o)) o answer o'
