-- What is claimed of rule 7: told of the tree (form/specs/Tables.antt) and told record by record (form/specs/Rows.antt) it says the same.
-- The proof is in proofs/Tables.antt, under the name given here.
-- Assumes nothing.
use Rattle.std.specs.Prelude.{ℕ, ◌*◌, ◌≡◌, ◌↔◌, List, true, length}
use Rattle.form.specs.Table.{word}
use Rattle.form.specs.Tables.{IsTable}
use Rattle.form.specs.Rows.{RowsAre}

-- `row-by-row`: words form a table over a document of d bytes exactly if they are those of n records, each of which is as rule 7 says
-- and names its parent.
abbrev pub IsRowByRow : Type 0
IsRowByRow = (d : ℕ) (w : List ℕ) → IsTable d w ↔ ((n : ℕ) × (length w ≡ 9 * n) × RowsAre d (word w) true n)
