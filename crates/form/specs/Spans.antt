-- Bytes or words in the middle of a list: those of a span, and others put in their place.
-- Assumes nothing.
use Rattle.std.specs.Prelude.{ℕ, ◌+◌, List, [], ◌∷◌, ◌++◌, Bool, true, false, ◌&&◌, length, take, drop, eqb}
use Rattle.form.specs.Answer.{pick}

-- What stands in a span.
abbrev pub part : List ℕ → ℕ → ℕ → List ℕ
part l start size = take size (drop start l)

-- The list with ws in the place of what stands from index i on.
unfoldable pub over : List ℕ → ℕ → List ℕ → List ℕ
over l i ws = take i l ++ (ws ++ drop (i + length ws) l)

-- Whether two lists are the same.
unfoldable pub same : List ℕ → List ℕ → Bool
same [] [] = true
same [] (y ∷ ys) = false
same (x ∷ xs) [] = false
same (x ∷ xs) (y ∷ ys) = eqb x y && same xs ys

-- Whether a number is one of a list's.
unfoldable pub among : List ℕ → ℕ → Bool
among [] b = false
among (x ∷ l) b = pick (eqb b x) true (among l b)
