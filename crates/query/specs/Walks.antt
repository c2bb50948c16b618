-- What the walk promises (rule 9, demand 3): the matches are counted on, and written into the list as far as there is room.
-- Assumes nothing.
use Rattle.std.specs.Prelude.{ℕ, suc, ◌+◌, ◌≤◌, ◌≡◌, List, [], ◌∷◌, Bool, true, false, ◌&&◌, length, set, ltb}
use Rattle.form.specs.Answer.{pick}
use Rattle.form.specs.Table.{Forest, word}
use Rattle.form.specs.Paths.{Hop, Step, fits, which}
use Rattle.form.specs.Records.{record_paths}
use Rattle.query_reach.specs.Reached.{last_of}
use Rattle.query_reach.specs.Sets.{goes_on}
use Rattle.query_reach.specs.Plans.{planned, Reaches}
use Rattle.query.specs.Sides.{Held}

-- A match, v, put at place c of the list if there is room for it.
unfoldable pub put_at : ℕ → ℕ → List ℕ → List ℕ
put_at c v l = pick (ltb c (length l)) (set l c v) l

-- Matches put one after the other, from place c on.
unfoldable pub noted : ℕ → List ℕ → List ℕ → List ℕ
noted c [] l = l
noted c (v ∷ vs) l = noted (suc c) vs (put_at c v l)

-- The matches `ans`, after `count` others, were counted and noted.
pub record Walks (ans : List ℕ) (count : ℕ) (l : List ℕ) (r : ℕ) (l' : List ℕ) : Type 0 where
  pub counted : r ≡ count + length ans
  pub listed : l' ≡ noted count ans l

-- A test's match.
abbrev pub hit : Bool → ℕ → List ℕ
hit true n = n ∷ []
hit false n = []

-- Whether the records in record n, which ends at `end`, are looked at: there are some, and a path that goes on can fit.
abbrev pub goes_in : ℕ → ℕ → ℕ → Bool
goes_in set n end = ltb (n + 1) end && goes_on set

-- The matches of some steps among the records f in a record n whose path is p.
unfoldable pub found_in : List ℕ → List ℕ → List Step → ℕ → List Hop → Forest → List ℕ
found_in doc t ss n p f = which (fits ss) (n + 1) (record_paths doc (word t n 0) 0 p f)

-- The walk over the records in record n. It knows no path, only the set of one: what it does is right for every path that has the set.
pub record Done (doc t q plan : List ℕ) (n set count : ℕ) (l : List ℕ) (r : ℕ) (l' : List ℕ) : Type 0 where
  pub few : r ≤ word t n 7
  pub walks : (m : ℕ) (p : List Hop) → Reaches q plan m p set → (g : Held (length doc) t n)
      → Walks (found_in doc t (last_of (planned q plan) m) n p g.forest) count l r l'
