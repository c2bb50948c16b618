-- Sets of the step numbers of rule 9's queries as words, a bit for each number.
-- Assumes nothing.
use Rattle.std.specs.Prelude.{ℕ, ◌/◌, ◌%◌, ◌^◌, ◌≤◌, ◌<◌, ◌-◌, ◌≡◌, [], Bool, true, false, ◌||◌, ◌&&◌, eqb, leb}
use Rattle.form.specs.Paths.{Hop, Step}
use Rattle.form.specs.Spans.{among}
use Rattle.query_reach.specs.Reached.{reached, last_of, deep_at, takes_at, left_of}

-- Whether k is in a set.
unfoldable pub has : ℕ → ℕ → Bool
has a k = eqb (a / 2 ^ k % 2) 1

-- The set of all numbers of which g holds. There is one at most (`one_set` in proofs/Sets.antt).
pub record Bits (g : ℕ → Bool) (a : ℕ) : Type 0 where
  pub is : (k : ℕ) → has a k ≡ g k

-- The least number in a set.
pub record Least (a k : ℕ) : Type 0 where
  pub is_in : has a k ≡ true
  pub none : (j : ℕ) → j < k → has a j ≡ false

-- Whether a path that goes on can fit: some step may come next, not the end alone.
abbrev pub goes_on : ℕ → Bool
goes_on a = leb 2 a

-- Which numbers of a set are those of steps that take a hop.
abbrev pub taken_of : (ℕ → Step) → Hop → ℕ → ℕ → Bool
taken_of f h set k = has set k && takes_at f h k

-- A set that has, with an 04, what comes next once it is passed over.
pub record Shut (f : ℕ → Step) (a : ℕ) : Type 0 where
  pub on : (k : ℕ) → deep_at f k ≡ true → has a k ≡ true → has a (k - 1) ≡ true

-- What gathering from step s on may rely on, for the steps f and a hop h: the sets of the steps that are 04 and, where the hop is left, of
-- those that take it, as far as they are asked; and a set that was gathered before.
pub record Gathers (f : ℕ → Step) (h : Hop) (deeps takers s left got : ℕ) : Type 0 where
  pub deep : (k : ℕ) → k ≤ s → has deeps k ≡ deep_at f k
  pub take : (left ≡ 0 → ⊥) → (k : ℕ) → among (reached (last_of f s) []) k ≡ true → has takers k ≡ takes_at f h k
  pub shut : Shut f got

-- What is gathered: what was, and the steps that may come next from step s on after the path left.
abbrev pub gathered : (ℕ → Step) → Hop → ℕ → ℕ → ℕ → ℕ → Bool
gathered f h s left got k = has got k || among (reached (last_of f s) (left_of left h)) k
