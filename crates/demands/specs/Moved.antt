-- What is claimed of the moves of stored lines between the two editions ([8]): what a move writes, that it is a table of the other edition and
-- stands for the same tree, and that there and back gives the first lines. The proofs are in proofs/Moved.antt, under the names given here; that
-- examples hold is shown there by computing.
-- Assumes nothing.
use Rattle.std.specs.Prelude.{ℕ, ◌+◌, ◌≤◌, ◌≡◌, List, [], ◌∷◌, ◌++◌, map, true, length, take}
use Rattle.form.specs.Answer.{Out, got, no, no_table, document_limit, record_limit}
use Rattle.form.specs.Spans.{over}
use Rattle.form.specs.Table.{Head, Forest, none, node, size, flat}
use Rattle.form.specs.Eight.{old_flat, narrow}
use Rattle.form.specs.Stored.{bad_line, TextLine, lines_in, is_line}
use Rattle.form.specs.Moved.{Edition, eight, nine, other, words_in, Forms, tree_in, tree_lines, movable, MoveIs}
use Rattle.calls.specs.Words.{refusal}
use Rattle.calls.specs.Calls.{MoveCalled}
use Rattle.demands.specs.Marked.{ascii}
use Rattle.demands.specs.Stored.{smallest, capital, feed}

-- `narrowed`: one tree's words in the two editions differ by the ninth alone.
abbrev pub IsNarrowed : Type 0
IsNarrowed = (f : Forest) → narrow (size f) (flat 0 0 f) ≡ old_flat 0 f

-- `moved`: whoever moves lines whose words form a table of their edition, with room for the other edition's lines of that tree, is answered how
-- many bytes those are, and they stand in the output from 0 on.
abbrev pub IsMoved : Type 0
IsMoved =
    (e : Edition) (d : ℕ) (s o o' a ws : List ℕ) → movable e d s ≡ got ws → (t : Forms e d ws) → length (tree_lines (other e) (tree_in e d ws t)) ≤ length o
    → MoveCalled e d s o o' a
    → (a ≡ 0 ∷ 0 ∷ length (tree_lines (other e) (tree_in e d ws t)) ∷ 0 ∷ 0 ∷ 0 ∷ 0 ∷ 0 ∷ []) × (o' ≡ over o 0 (tree_lines (other e) (tree_in e d ws t)))

-- The lines s, of edition e, and s', of the other, have words that form tables over a document of d bytes, and stand for the same tree.
pub record SameTree (e : Edition) (d : ℕ) (s s' : List ℕ) : Type 0 where
  pub words : List ℕ
  pub read : movable e d s ≡ got words
  pub table : Forms e d words
  pub words' : List ℕ
  pub read' : movable (other e) d s' ≡ got words'
  pub table' : Forms (other e) d words'
  pub same : tree_in (other e) d words' table' ≡ tree_in e d words table

-- `moved-table`: lines whose move is accepted form a table, and the bytes written are lines of the other edition that form one too, of the same
-- tree.
abbrev pub IsMovedTable : Type 0
IsMovedTable =
    (e : Edition) (d : ℕ) (s o o' a : List ℕ) → MoveCalled e d s o o' a → (c : ℕ) → a ≡ 0 ∷ 0 ∷ c ∷ 0 ∷ 0 ∷ 0 ∷ 0 ∷ 0 ∷ [] → SameTree e d s (take c o')

-- `there_and_back`: whoever moves lines, from either edition, and moves the bytes written back, with room for the first lines, gets those. The
-- lines that move are, by `moved` and `moved-table`, those that form a table in their own edition.
abbrev pub IsThereAndBack : Type 0
IsThereAndBack =
    (e : Edition) (d : ℕ) (s o o' a : List ℕ) → MoveCalled e d s o o' a → (c : ℕ) → a ≡ 0 ∷ 0 ∷ c ∷ 0 ∷ 0 ∷ 0 ∷ 0 ∷ 0 ∷ []
    → (u u' b : List ℕ) → length s ≤ length u → MoveCalled (other e) d (take c o') u u' b
    → (b ≡ 0 ∷ 0 ∷ length s ∷ 0 ∷ 0 ∷ 0 ∷ 0 ∷ 0 ∷ []) × (u' ≡ over u 0 s)

-- `none-moved`: no lines form no table, so moving none is refused with 10.
abbrev pub IsNoneMoved : Type 0
IsNoneMoved = (e : Edition) (d : ℕ) (o o' a : List ℕ) → d ≤ document_limit → MoveCalled e d [] o o' a → (a ≡ refusal no_table 0) × (o' ≡ o)

-- `other_width`: within the limits a text with a line of the other edition is refused with 29, at that line or one before it. So lines of both
-- widths in one text move neither way.
abbrev pub IsOtherWidth : Type 0
IsOtherWidth =
    (e : Edition) (d : ℕ) (s : List ℕ) → d ≤ document_limit → length (lines_in s) ≤ record_limit
    → (before later : List TextLine) (l : TextLine) → lines_in s ≡ before ++ (l ∷ later) → is_line (words_in (other e)) l ≡ true
    → (p : ℕ) × (1 ≤ p) × (p ≤ 1 + length before) × (movable e d s ≡ no bad_line p)

-- `one-move`: two outcomes that the promise of a move allows are one, the answer and the output.
abbrev pub IsOneMove : Type 0
IsOneMove =
    (e : Edition) (d : ℕ) (s o : List ℕ) (a₁ a₂ : Out ℕ) (o₁ o₂ : List ℕ) → MoveIs e d s o a₁ o₁ → MoveIs e d s o a₂ o₂ → (a₁ ≡ a₂) × (o₁ ≡ o₂)

-- ---- by example

-- A text to move from an edition, and the length of the document.
pub data Moving : Type 0 where
  moving : Edition → ℕ → List ℕ → Moving

abbrev pub answer_to : Moving → Out (List ℕ)
answer_to (moving e d s) = movable e d s

-- The smallest line and the one with a capital as they were: without the ninth word.
abbrev pub smallest_old : List ℕ
smallest_old = ascii "0000000a00000003000000000000000000000000000000000000000000000001"

abbrev pub capital_old : List ℕ
capital_old = ascii "0000000A00000003000000000000000000000000000000000000000000000001"

-- The tree of 0A0000 030001 61 00000001 090001 62 01 00000002 05 06 00: a compound with an int named a, and a list named b of two bytes.
abbrev pub sample_tree : Forest
sample_tree =
    node (head 10 3 0 0 0 2 0)
    (node (head 3 6 1 7 4 0 0) none
    (node (head 9 14 1 0 0 2 1) (node (head 1 0 0 20 1 0 0) none (node (head 1 0 0 21 1 0 0) none none))
    none))
    none
  where
    head : ℕ → ℕ → ℕ → ℕ → ℕ → ℕ → ℕ → Head
    head k n m s z c l = record { kind = k; name = n; name_length = m; start = s; size = z; count = c; list_kind = l }

-- Its words in the two editions.
abbrev pub sample_old_words : List ℕ
sample_old_words =
    10 ∷ 3 ∷ 0 ∷ 0 ∷ 0 ∷ 2 ∷ 0 ∷ 5
    ∷ 3 ∷ 6 ∷ 1 ∷ 7 ∷ 4 ∷ 0 ∷ 0 ∷ 2
    ∷ 9 ∷ 14 ∷ 1 ∷ 0 ∷ 0 ∷ 2 ∷ 1 ∷ 5
    ∷ 1 ∷ 0 ∷ 0 ∷ 20 ∷ 1 ∷ 0 ∷ 0 ∷ 4
    ∷ 1 ∷ 0 ∷ 0 ∷ 21 ∷ 1 ∷ 0 ∷ 0 ∷ 5 ∷ []

abbrev pub sample_new_words : List ℕ
sample_new_words =
    10 ∷ 3 ∷ 0 ∷ 0 ∷ 0 ∷ 2 ∷ 0 ∷ 5 ∷ 0
    ∷ 3 ∷ 6 ∷ 1 ∷ 7 ∷ 4 ∷ 0 ∷ 0 ∷ 2 ∷ 0
    ∷ 9 ∷ 14 ∷ 1 ∷ 0 ∷ 0 ∷ 2 ∷ 1 ∷ 5 ∷ 0
    ∷ 1 ∷ 0 ∷ 0 ∷ 20 ∷ 1 ∷ 0 ∷ 0 ∷ 4 ∷ 2
    ∷ 1 ∷ 0 ∷ 0 ∷ 21 ∷ 1 ∷ 0 ∷ 0 ∷ 5 ∷ 2 ∷ []

-- Its lines.
abbrev pub sample_old : List ℕ
sample_old =
    ascii "0000000a00000003000000000000000000000000000000020000000000000005" ++ feed
    ++ ascii "0000000300000006000000010000000700000004000000000000000000000002" ++ feed
    ++ ascii "000000090000000e000000010000000000000000000000020000000100000005" ++ feed
    ++ ascii "0000000100000000000000000000001400000001000000000000000000000004" ++ feed
    ++ ascii "0000000100000000000000000000001500000001000000000000000000000005" ++ feed

abbrev pub sample_new : List ℕ
sample_new =
    ascii "0000000a0000000300000000000000000000000000000002000000000000000500000000" ++ feed
    ++ ascii "000000030000000600000001000000070000000400000000000000000000000200000000" ++ feed
    ++ ascii "000000090000000e00000001000000000000000000000002000000010000000500000000" ++ feed
    ++ ascii "000000010000000000000000000000140000000100000000000000000000000400000002" ++ feed
    ++ ascii "000000010000000000000000000000150000000100000000000000000000000500000002" ++ feed

unfoldable pub examples : List (Moving × Out (List ℕ))
examples =
    -- one line of each edition, and five
    (moving eight 4 (smallest_old ++ feed), got (10 ∷ 3 ∷ 0 ∷ 0 ∷ 0 ∷ 0 ∷ 0 ∷ 1 ∷ []))
    ∷ (moving nine 4 (smallest ++ feed), got (10 ∷ 3 ∷ 0 ∷ 0 ∷ 0 ∷ 0 ∷ 0 ∷ 1 ∷ 0 ∷ []))
    ∷ (moving eight 23 sample_old, got sample_old_words)
    ∷ (moving nine 23 sample_new, got sample_new_words)
    -- no line: no words, which form no table
    ∷ (moving eight 4 [], got [])
    -- the other edition's lines; both widths in one text, the wrong one last and first
    ∷ (moving eight 4 (smallest ++ feed), no 29 1)
    ∷ (moving nine 4 (smallest_old ++ feed), no 29 1)
    ∷ (moving eight 4 (smallest_old ++ feed ++ smallest_old ++ feed ++ smallest ++ feed), no 29 3)
    ∷ (moving nine 4 (smallest_old ++ feed ++ smallest ++ feed), no 29 1)
    -- the last line not ended; a capital; a carriage return; an empty line
    ∷ (moving eight 4 (smallest_old ++ feed ++ smallest_old), no 29 2)
    ∷ (moving nine 4 smallest, no 29 1)
    ∷ (moving eight 4 (smallest_old ++ feed ++ capital_old ++ feed), no 29 2)
    ∷ (moving nine 4 (capital ++ feed), no 29 1)
    ∷ (moving eight 4 (smallest_old ++ (13 ∷ feed)), no 29 1)
    ∷ (moving nine 4 (feed ++ smallest ++ feed), no 29 1)
    -- the longest document, and one that is longer, which is seen before a bad line
    ∷ (moving eight 16777216 (smallest_old ++ feed), got (10 ∷ 3 ∷ 0 ∷ 0 ∷ 0 ∷ 0 ∷ 0 ∷ 1 ∷ []))
    ∷ (moving eight 16777217 (capital_old ++ feed), no 9 0)
    ∷ []

-- `moved-examples`: the definition answers each as it says, and the lines of the tree are those.
abbrev pub AreMovedExamples : Type 0
AreMovedExamples =
    (map (λ r. answer_to r.0) examples ≡ map (λ r. r.1) examples) × (tree_lines eight sample_tree ≡ sample_old) × (tree_lines nine sample_tree ≡ sample_new)
