-- The tie rule in the three cases of request [9]: below the half, above it, and on it, where the even neighbour is chosen.
-- Assumes nothing.
use Rattle.std.specs.Prelude.{◌≡◌, ℕ, suc, ◌%◌, ◌≤◌, ◌<◌}
use Rattle.snbt_floats.specs.declared.nearest.Case.{Case}

-- Where the dropped bits lie by the half (request [9]).
abbrev pub CaseIs : ℕ → ℕ → Case → Type 0
CaseIs dropped half Case.BelowHalf = dropped < half
CaseIs dropped half Case.AboveHalf = half < dropped
CaseIs dropped half Case.OnHalf = dropped ≡ half

-- The even one of a number and the next: the neighbour that a tie goes to (rule 13, request [9]).
abbrev pub EvenOf : ℕ → ℕ → Type 0
EvenOf kept r = (r % 2 ≡ 0) × (kept ≤ r) × (r ≤ suc kept)
