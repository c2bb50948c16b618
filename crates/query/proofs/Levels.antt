-- How many levels records have, each with those in it: that the table's words say it, and that refusal 7 bounds it. This bounds the depth
-- of the walk's recursion. Assumes nothing.
use Prim.Native.Nat.{ℕ, zero, suc, ◌+◌, ◌-◌, ◌*◌, ◌≤◌, ◌<◌, max}
use mathlib.Core.Path.{◌≡◌, refl}
use mathlib.Core.Logic.{◌⊎◌, inl, inr}
use mathlib.Core.List.{List}
use mathlib.Core.Bool.{Bool, true, not, ◌||◌}
use native.Mathlib.Omega.{arith}
use lib.ListN.{length}
use lib.Dec.{eqb, ltb}
use borrow.Author.Tests.{lt-ltb, le-ltb, ltb-true}
use Rattle.form.specs.Answer.{got}
use Rattle.form.specs.Table.{Head, Forest, none, node, size, word, holds}
use Rattle.form.specs.Tables.{LeafIs, ContainerIs, Fair}
use Rattle.form.specs.Query.{shallow}
use Rattle.form.specs.Records.{Sits}
use Rattle.form.proofs.Depths.{shallow-parts}
use Rattle.form.proofs.Tables.{sits-room, fair-first, fair-inner, fair-later}
use Rattle.query.specs.Sides.{Side, levels_by}

-- A record and those in it are one level more than those in it alone.
unfoldable pub levels : Forest → ℕ
levels none = 0
levels (node h inner later) = max (suc (levels inner)) (levels later)

module _ (h : Head) (inner later : Forest) where
  -- In the first record there are fewer levels than in all, and after it no more.
  pub levels-inner : levels inner < levels (node h inner later)
  unfolding levels
  levels-inner = omega arith

  pub levels-later : levels later ≤ levels (node h inner later)
  unfolding levels
  levels-later = omega arith

-- ---- the words say it

-- Looking at k records is enough where there are no more.
levels-by : (k : ℕ) (t : List ℕ) (from end : ℕ) (f : Forest) → Sits t from f → from + size f ≡ end → size f ≤ k → levels_by k t from end ≡ levels f
unfolding levels_by levels size Sits
levels-by zero t from end none s e l = refl
levels-by zero t from end (node h inner later) s e l = absurd (omega arith)
levels-by (suc k) t from end none s e l = rw (le-ltb from end (omega arith))
levels-by (suc k) t from end (node h inner later) s e l =
    let past : word t from 7 ≡ from + 1 + size inner = s.0.end in
    rw (
      lt-ltb from end (omega arith),
      past,
      levels-by k t (from + 1) (from + 1 + size inner) inner s.1 refl (omega arith),
      levels-by k t (from + 1 + size inner) end later s.2 (omega arith) (omega arith),
    )

-- There are no more records than the table has words.
pub levels-are : (d : ℕ) (t : List ℕ) (from end : ℕ) (s : Side d t from end) → 9 * from ≤ length t → levels_by (length t) t from end ≡ levels s.forest
levels-are d t from end s l =
    let room = sits-room t from s.forest s.sits l in
    levels-by (length t) t from end s.forest s.sits s.ends (omega arith)

-- ---- refusal 7 bounds it

-- A record that holds others is a container, and counts; the last level need not be one.
first-low : (d left : ℕ) (h : Head) (inner : Forest) → LeafIs d h inner ⊎ ContainerIs h inner → (not (holds h.kind) || ltb 0 left) ≡ true
    → ((0 < left) → levels inner ≤ left) → levels inner ≤ left
unfolding levels
first-low d left h inner (inl leaf) e low = rw leaf.bare (omega arith)
first-low d left h inner (inr box) e low = low (ltb-true 0 left (rw box.kind at e))

-- Where `left` containers may stand within each other there is at most one level more.
pub levels-low : (d : ℕ) (element : Bool) (left n : ℕ) (f : Forest) → Fair d element f → shallow left n f ≡ got tt → levels f ≤ suc left
unfolding levels
levels-low d element left n none a e = omega arith
levels-low d element left n (node h inner later) a e =
    let parts = shallow-parts left n h inner later e in
    let inside = levels-low d (eqb h.kind 9) (left - 1) (n + 1) inner (fair-inner d element h inner later a) parts.1 in
    let here : levels inner ≤ left = first-low d left h inner (fair-first d element h inner later a) parts.0 (λ some. omega arith) in
    let after = levels-low d element left (n + 1 + size inner) later (fair-later d element h inner later a) parts.2 in
    omega arith
