-- What the contracts of the functions on linked records cite.
-- Assumes nothing.
use Rattle.std.specs.Prelude.{ℕ, ◌+◌, ◌≤◌, ◌<◌, List, Bool, true, false, ◌≡◌, ◌⊎◌, ltb}
use Rattle.std.specs.Prelude.{Option, Some, None}
use Rattle.nbt_siblings.specs.Names.{name_of, end_of, siblings}
use Rattle.nbt_siblings.specs.Links.{num, rank, link, Mem, walk, past, Le, Sorted, Agree, Fit}

-- whether the first of two numbers is less
abbrev pub Told : ℕ → ℕ → Bool → Type 0
Told x y true = x < y
Told x y false = y ≤ x

-- whether two numbers are the same
abbrev pub Alike : ℕ → ℕ → Bool → Type 0
Alike x y true = x ≡ y
Alike x y false = x ≡ y → ⊥

-- the lesser of low and y, where the two names are the same; else low
pub record Lowered (nx ny y low r : ℕ) : Type 0 where
  pub twin : nx ≡ ny → r ≤ y
  pub le : r ≤ low
  pub is : (r ≡ low) ⊎ ((r ≡ y) × (nx ≡ ny))

-- whether the next record comes from the first of two lists, of p and q records, whose first keys are kx and ky
abbrev pub Picked : Bool → ℕ → ℕ → ℕ → ℕ → Bool → Type 0
Picked up p q kx ky true = (0 < p) × (0 < q → Le up kx ky)
Picked up p q kx ky false = (0 < q) × (0 < p → Le up ky kx)

-- two lists of linked records, to be merged
pub record Two (doc t : List ℕ) (a na b nb : ℕ) (up : Bool) : Type 0 where
  pub few : na + nb < 4294967296
  pub first : Sorted up (rank doc t) (walk (link t) a na)
  pub second : Sorted up (rank doc t) (walk (link t) b nb)
  pub apart : (z : ℕ) → Mem z (walk (link t) a na) → Mem z (walk (link t) b nb) → ⊥
  pub fit : (z : ℕ) → Mem z (walk (link t) a na) ⊎ Mem z (walk (link t) b nb) → Fit doc t z

-- t' has the list from r on, of the records for which U
pub record Lists (doc t t' : List ℕ) (U : ℕ → Type 0) (r n : ℕ) (up : Bool) : Type 0 where
  pub sorted : Sorted up (rank doc t) (walk (link t') r n)
  pub all : (z : ℕ) → U z → Mem z (walk (link t') r n)
  pub only : (z : ℕ) → Mem z (walk (link t') r n) → U z
  pub agree : Agree t t' U

-- n records stand side by side from record `at` on
pub record Row (doc t : List ℕ) (at n : ℕ) : Type 0 where
  pub some : 0 < n
  pub few : n < 4294967296
  pub fit : (z : ℕ) → Mem z (walk (end_of t) at n) → Fit doc t z
  pub on : (z : ℕ) → Mem z (walk (end_of t) at n) → z < end_of t z

-- the n records side by side from record `at` on, as a list in order, and the record after them
pub record Sorts (doc t t' : List ℕ) (at n : ℕ) (up : Bool) (head next : ℕ) : Type 0 where
  pub next_is : next ≡ past (end_of t) at n
  pub lists : Lists doc t t' (λ z. Mem z (walk (end_of t) at n)) head n up

-- a list whose records are to be compared, one with the next, and whose links are undone
pub record Chained (doc t : List ℕ) (head n none : ℕ) : Type 0 where
  pub some : 0 < n
  pub sorted : Sorted true (rank doc t) (walk (link t) head n)
  pub fit : (z : ℕ) → Mem z (walk (link t) head n) → Fit doc t z
  pub below : (z : ℕ) → Mem z (walk (link t) head n) → z < none

-- an earlier record of those in U has the name
pub record Again (doc t : List ℕ) (U : ℕ → Type 0) (z : ℕ) : Type 0 where
  pub here : U z
  pub w : ℕ
  pub there : U w
  pub earlier : w < z
  pub twins : num (name_of doc t w) ≡ num (name_of doc t z)

-- the least record of those in U that has an earlier twin, or `none`
pub record Least (doc t : List ℕ) (U : ℕ → Type 0) (none low : ℕ) : Type 0 where
  pub is : (low ≡ none) ⊎ Again doc t U low
  pub least : (z : ℕ) → Again doc t U z → low ≤ z

-- the links of a list are undone, and the least of it that has an earlier twin is low
pub record Unlinked (doc t t' : List ℕ) (head n none low : ℕ) : Type 0 where
  pub clean : (t₀ : List ℕ) → Agree t₀ t (λ z. Mem z (walk (link t) head n)) → ((z : ℕ) → Mem z (walk (link t) head n) → link t₀ z ≡ 0) → t' ≡ t₀
  pub low_is : Least doc t (λ z. Mem z (walk (link t) head n)) none low

-- what `first_repeat` requires: the records from `first` up to `stop` stand side by side, their names in the document, and the words for links are 0
pub record Family (doc t : List ℕ) (first stop : ℕ) : Type 0 where
  pub small : stop < 4294967296
  pub fit : (z : ℕ) → Mem z (siblings t stop stop first) → Fit doc t z
  pub on : (z : ℕ) → Mem z (siblings t stop stop first) → z < end_of t z
  pub free : (z : ℕ) → Mem z (siblings t stop stop first) → link t z ≡ 0

-- whether an earlier record of the family has the name of record i
abbrev pub Taken : List ℕ → List ℕ → ℕ → ℕ → ℕ → Bool → Type 0
Taken doc t first stop i true = Again doc t (λ z. Mem z (siblings t stop stop first)) i
Taken doc t first stop i false = Again doc t (λ z. Mem z (siblings t stop stop first)) i → ⊥

-- whether a name comes before the next, if there is a next one
abbrev pub Climbs : ℕ → ℕ → ℕ → ℕ → Bool → Type 0
Climbs x y next stop true = next < stop → x < y
Climbs x y next stop false = Unit {0}

-- whether the names of the family rise: then none stands twice
abbrev pub Rises : List ℕ → List ℕ → ℕ → ℕ → Bool → Type 0
Rises doc t first stop true = Least doc t (λ z. Mem z (siblings t stop stop first)) stop stop
Rises doc t first stop false = Unit {0}

-- the answer that a number is: stop is none
abbrev pub found_of : ℕ → ℕ → Option ℕ
found_of low stop = elim (ltb low stop) [
  | true ↦ Some low
  | false ↦ None
]
