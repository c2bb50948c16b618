-- Rule 9 one hop at a time: which steps of a query may come next once a path has been gone. A step is known by how many are left from it on,
-- itself counted: the last is step 1, and 0 is the end, past them all. proofs/Reached.antt shows what this says of rule 9's `fits`.
-- Assumes nothing.
use Rattle.std.specs.Prelude.{ℕ, zero, suc, List, [], ◌∷◌, ◌++◌, Bool, true, false, length}
use Rattle.form.specs.Answer.{pick}
use Rattle.form.specs.Paths.{Hop, Step, name, index, any, deep, takes, is_empty}

-- A step that takes one level, n being its number: it comes next where the path has ended; else it takes the first level, and the rest
-- goes on from there.
unfoldable pub hop_then : Step → ℕ → (List Hop → List ℕ) → List Hop → List ℕ
hop_then s n rest [] = n ∷ []
hop_then s n rest (h ∷ hs) = pick (takes s h) (rest hs) []

-- 04 takes zero or more levels: where the path has ended it comes next, and so does what comes next once it is passed over; else it is
-- passed over here, or takes the first level and stays.
unfoldable pub deep_then : ℕ → (List Hop → List ℕ) → List Hop → List ℕ
deep_then n rest [] = n ∷ rest []
deep_then n rest (h ∷ hs) = rest (h ∷ hs) ++ deep_then n rest hs

-- The steps that may come next after a path, by recursion on the steps and the path left.
unfoldable pub reached : List Step → List Hop → List ℕ
reached [] hs = pick (is_empty hs) (0 ∷ []) []
reached (name n ∷ ss) hs = hop_then (name n) (suc (length ss)) (reached ss) hs
reached (index i ∷ ss) hs = hop_then (index i) (suc (length ss)) (reached ss) hs
reached (any ∷ ss) hs = hop_then any (suc (length ss)) (reached ss) hs
reached (deep ∷ ss) hs = deep_then (suc (length ss)) (reached ss) hs

-- The last n of some steps, f k being step k.
unfoldable pub last_of : (ℕ → Step) → ℕ → List Step
last_of f zero = []
last_of f (suc n) = f (suc n) ∷ last_of f n

-- Whether step k is 04, and whether it takes a hop; 0 is no step.
abbrev pub is_deep : Step → Bool
is_deep (name n) = false
is_deep (index i) = false
is_deep any = false
is_deep deep = true

abbrev pub deep_at : (ℕ → Step) → ℕ → Bool
deep_at f zero = false
deep_at f (suc k) = is_deep (f (suc k))

abbrev pub takes_at : (ℕ → Step) → Hop → ℕ → Bool
takes_at f h zero = false
takes_at f h (suc k) = takes (f (suc k)) h

-- The path left: a hop, or nothing.
abbrev pub left_of : ℕ → Hop → List Hop
left_of zero h = []
left_of (suc n) h = h ∷ []
