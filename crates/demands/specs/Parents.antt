-- What is claimed of parents (02, [7]), said on the tree: the ninth word of a record numbers the tag whose path is its own without the last
-- level, so that whoever climbs from a match passes each tag that it sits in, up to the root.
-- The proofs are in proofs/Parents.antt, under the names given here.
-- Assumes nothing.
use Rattle.std.specs.Prelude.{ℕ, ◌<◌, ◌≡◌, List, [], ◌∷◌, ◌++◌, length}
use Rattle.form.specs.Form.{Form}
use Rattle.form.specs.Table.{word}
use Rattle.form.specs.Tables.{IsTable}
use Rattle.form.specs.Paths.{Hop, paths}
use Rattle.demands.specs.Writing.{table_value}
use Rattle.demands.specs.Queries.{PathAt}

-- `root-parent`: the root's ninth word is 0.
abbrev pub IsRootParent : Type 0
IsRootParent = (d : ℕ) (w : List ℕ) → IsTable d w → word w 0 8 ≡ 0

-- `climbs`: where n's path has a last level h, its ninth word is a smaller number, and the path at that number is n's without h.
abbrev pub IsClimbs : Form → Type 0
IsClimbs form =
    (doc w : List ℕ) (t : IsTable (length doc) w) (n : ℕ) (p : List Hop) (h : Hop) → PathAt (paths (table_value form doc w t)) n (p ++ (h ∷ []))
    → (word w n 8 < n) × PathAt (paths (table_value form doc w t)) (word w n 8) p
