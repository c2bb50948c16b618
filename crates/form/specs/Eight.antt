-- Request [8]: the edition before parents, as document 01 has it: the eight words of a record (rule 6), and what it is for words to form a table
-- (rule 7). Trees, and the rules for their records, are those of Table.antt and Tables.antt.
-- Assumes nothing.
use Rattle.std.specs.Prelude.{ℕ, zero, suc, ◌+◌, ◌*◌, ◌≡◌, List, [], ◌∷◌, ◌++◌, false, get_or, take, drop}
use Rattle.form.specs.Table.{Head, Forest, none, node, size}
use Rattle.form.specs.Tables.{Fair}

-- The words of one record, in rule 6's order. `end` is the number of the first record outside its subtree.
abbrev pub old_words : Head → ℕ → List ℕ
old_words h end =
    h.kind ∷ h.name ∷ h.name_length ∷ h.start ∷ h.size ∷ h.count ∷ h.list_kind ∷ end ∷ []

-- Word k of record n in a table.
abbrev pub old_word : List ℕ → ℕ → ℕ → ℕ
old_word t n k = get_or t (8 * n + k) 0

-- The words of the records, the first of which has the number n.
unfoldable pub old_flat : ℕ → Forest → List ℕ
old_flat n none = []
old_flat n (node h inner later) =
    old_words h (n + 1 + size inner) ++ (old_flat (n + 1) inner ++ old_flat (n + 1 + size inner) later)

-- The words form a table: they are those of a compound's record and of the records in it.
pub record OldTable (d : ℕ) (w : List ℕ) : Type 0 where
  pub head : Head
  pub inner : Forest
  pub compound : head.kind ≡ 10
  pub fair : Fair d false (node head inner none)
  pub these : w ≡ old_flat 0 (node head inner none)

-- The words of n records of nine words each without the ninth.
unfoldable pub narrow : ℕ → List ℕ → List ℕ
narrow zero t = []
narrow (suc n) t = take 8 t ++ narrow n (drop 9 t)
