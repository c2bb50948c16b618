-- The definition: the first of the records side by side whose name an earlier one has, which is refused with number 6.
-- Assumes nothing.
use Rattle.std.specs.Prelude.{ℕ, zero, suc, List, [], ◌∷◌, Bool, true, false, ◌||◌, ltb}
use Rattle.form.specs.Table.{word}
use Rattle.form.specs.Spans.{same, part}
use Rattle.std.specs.Prelude.{Option, Some, None}

-- a record's name
unfoldable pub name_of : List ℕ → List ℕ → ℕ → List ℕ
name_of doc t i = part doc (word t i 1) (word t i 2)

-- the number of the record after a record and those in it
abbrev pub end_of : List ℕ → ℕ → ℕ
end_of t i = word t i 7

-- the records side by side, from i up to stop. The first number is enough where it is above the records left
unfoldable pub siblings : List ℕ → ℕ → ℕ → ℕ → List ℕ
siblings t stop zero i = []
siblings t stop (suc fuel) i = elim (ltb i stop) [
  | true ↦ i ∷ siblings t stop fuel (end_of t i)
  | false ↦ []
]

module _ (name : ℕ → List ℕ) where
  -- whether one of the records has the name
  unfoldable pub among : List ℕ → List ℕ → Bool
  among n [] = false
  among n (j ∷ js) = same (name j) n || among n js

  -- the first of the records whose name one before it has, or one of those seen
  unfoldable pub first_from : List ℕ → List ℕ → Option ℕ
  first_from seen [] = None
  first_from seen (i ∷ is) = elim (among (name i) seen) [
    | true ↦ Some i
    | false ↦ first_from (i ∷ seen) is
  ]

-- the answer to `first_repeat`
unfoldable pub first_repeat : List ℕ → List ℕ → ℕ → ℕ → Option ℕ
first_repeat doc t first stop = first_from (name_of doc t) [] (siblings t stop stop first)
