-- Records put in cells by a number made of their names: the cells are the link words of the records in a stretch of the table, which are 0 before.
-- Assumes nothing.
use Rattle.std.specs.Prelude.{ℕ, ◌+◌, ◌-◌, ◌*◌, ◌/◌, ◌%◌, ◌≤◌, ◌<◌, List, Bool, true, false, ◌≡◌, ◌⊎◌, length, get_or, ltb}
use Rattle.nbt_siblings.specs.declared.cells.Spot.{Spot}
use Rattle.nbt_siblings.specs.declared.cells.Placed.{Placed}
use Rattle.nbt_siblings.specs.declared.cells.Sought.{Sought}
use Rattle.nbt_siblings.specs.Names.{name_of, siblings}
use Rattle.nbt_siblings.specs.Links.{num, four_of, link, linked, Mem, Agree, Fit}
use Rattle.nbt_siblings.specs.Lists.{Again, Least, Family}

-- four numbers below 2^32 each made one
abbrev pub blend : ℕ → ℕ → ℕ → ℕ → ℕ
blend a b c d = a * 2654435761 / 4 + b * 2246822519 / 4 + c * 3266489917 / 4 + d * 3668265263 / 4

-- the two halves of a number added and multiplied
abbrev pub turn : ℕ → ℕ → ℕ
turn k x = (x / 4294967296 + x % 4294967296) % 4294967296 * k

-- four numbers below 2^32 stirred into one below 2^44
unfoldable pub stir_of : ℕ → ℕ → ℕ → ℕ → ℕ
stir_of a b c d = turn 3266489917 (turn 2654435761 (blend a b c d)) / 1048576

-- two numbers below 2^32 made one
abbrev pub both_of : ℕ → ℕ → ℕ
both_of a b = (a + b) % 4294967296

-- the mark of n bytes: the first and last eight stirred, and of sixteen or more those in the middle with the first; of less than eight
-- the first and last four; of less than four all
unfoldable pub mark_by : List ℕ → ℕ → ℕ
mark_by xs n = elim (ltb n 8) [
  | false ↦ elim (ltb n 16) [
    | false ↦ stir_of (both_of (four_of xs 0) (four_of xs (n / 2 - 4))) (both_of (four_of xs 4) (four_of xs (n / 2))) (four_of xs (n - 8)) (four_of xs (n - 4))
    | true ↦ stir_of (four_of xs 0) (four_of xs 4) (four_of xs (n - 8)) (four_of xs (n - 4))
  ]
  | true ↦ elim (ltb n 4) [
    | false ↦ stir_of n 0 (four_of xs 0) (four_of xs (n - 4))
    | true ↦ stir_of n (get_or xs 0 0) (get_or xs 1 0) (get_or xs 2 0)
  ]
]

-- the mark of a name
unfoldable pub mark_of : List ℕ → ℕ
mark_of xs = mark_by xs (length xs)

-- the mark of a record's name
abbrev pub mark_at : List ℕ → List ℕ → ℕ → ℕ
mark_at doc t i = mark_of (name_of doc t i)

-- the class of n bytes, of 128, by their number, the first, the middle and the last
unfoldable pub class_by : List ℕ → ℕ → ℕ
class_by xs n = (n % 8 * 16 + get_or xs 0 0 * 5 + get_or xs (n / 2) 0 * 7 + get_or xs (n - 1) 0 * 3) % 128

-- the class of a name
unfoldable pub class_of : List ℕ → ℕ
class_of xs = class_by xs (length xs)

-- the class of a record's name
abbrev pub class_at : List ℕ → List ℕ → ℕ → ℕ
class_at doc t i = class_of (name_of doc t i)

-- no record before record i has its class
unfoldable pub Fresh : List ℕ → List ℕ → ℕ → ℕ → ℕ → Type 0
Fresh doc t first stop i = (w : ℕ) → Mem w (siblings t stop stop first) → w < i → class_at doc t w ≡ class_at doc t i → ⊥

-- the first cell for a mark, of those from `first` up to `last`; an eighth of them are left after it
abbrev pub home_of : ℕ → ℕ → ℕ → ℕ
home_of first last mark = first + mark / 2 % (last - first - (last - first) / 8)

-- the links of the records of a stretch are 0
unfoldable pub Blank : List ℕ → ℕ → ℕ → Type 0
Blank t from to = (z : ℕ) → from ≤ z → z < to → link t z ≡ 0

-- what `blank` answers
abbrev pub Blanked : List ℕ → ℕ → ℕ → Bool → Type 0
Blanked t from to true = Blank t from to
Blanked t from to false = Unit {0}

-- the links of a stretch set to 0, and nothing else changed
pub record Wiped (t t' : List ℕ) (from to : ℕ) : Type 0 where
  pub frame : Agree t t' (λ z. (from ≤ z) × (z < to))
  pub zero : Blank t' from to

-- a cell is in the table, and a record that stands in it too
unfoldable pub Cells : List ℕ → List ℕ → ℕ → ℕ → Type 0
Cells doc t from to = (k : ℕ) → from ≤ k → k < to → (9 * k + 9 ≤ length t) × ((link t k ≡ 0 → ⊥) → Fit doc t (link t k))

-- the cells from `from` up to k hold records of other names
unfoldable pub Passed : List ℕ → List ℕ → ℕ → ℕ → ℕ → Type 0
Passed doc t i from k = (j : ℕ) → from ≤ j → j < k → (link t j ≡ 0 → ⊥) × (num (name_of doc t (link t j)) ≡ num (name_of doc t i) → ⊥)

-- cell k is the first that is free
pub record Open (doc t : List ℕ) (i from to k : ℕ) : Type 0 where
  pub low : from ≤ k
  pub high : k < to
  pub empty : link t k ≡ 0
  pub passed : Passed doc t i from k

-- a cell holds a record of the same name
pub record Met (doc t : List ℕ) (i from to : ℕ) : Type 0 where
  pub k : ℕ
  pub low : from ≤ k
  pub high : k < to
  pub full : link t k ≡ 0 → ⊥
  pub twins : num (name_of doc t (link t k)) ≡ num (name_of doc t i)

-- what `probe` answers
abbrev pub Probed : List ℕ → List ℕ → ℕ → ℕ → ℕ → Spot → Type 0
Probed doc t i from to (Spot.Free k) = Open doc t i from to k
Probed doc t i from to Spot.Twin = Met doc t i from to
Probed doc t i from to Spot.Full = Unit {0}

-- record i was put in the first free cell
pub record Put (doc t t' : List ℕ) (i first last : ℕ) : Type 0 where
  pub k : ℕ
  pub spot : Open doc t i (home_of first last (mark_at doc t i)) last k
  pub is : t' ≡ linked t k i

-- what `place` answers, and what it does to the table
abbrev pub PlacedBy : List ℕ → List ℕ → List ℕ → ℕ → ℕ → ℕ → ℕ → Placed → Type 0
PlacedBy doc t t' i first last class (Placed.On used) =
    ((t' ≡ t) × (mark_at doc t i % 2 ≡ class → ⊥)) ⊎ ((mark_at doc t i % 2 ≡ class) × Put doc t t' i first last)
PlacedBy doc t t' i first last class Placed.Twin = (t' ≡ t) × Met doc t i first last
PlacedBy doc t t' i first last class Placed.Full = t' ≡ t

-- every record of a class that has an earlier twin has at least the number low
unfoldable pub FromOn : List ℕ → List ℕ → ℕ → ℕ → ℕ → ℕ → Type 0
FromOn doc t first stop class low =
    (z : ℕ) → Again doc t (λ w. Mem w (siblings t stop stop first)) z → mark_at doc t z % 2 ≡ class → low ≤ z

-- what the search in one class answers: the least of it that has an earlier twin, or that there is none, or nothing at all
abbrev pub Halved : List ℕ → List ℕ → ℕ → ℕ → ℕ → Sought → Type 0
Halved doc t first stop class (Sought.At i) = Again doc t (λ w. Mem w (siblings t stop stop first)) i × FromOn doc t first stop class i
Halved doc t first stop class Sought.Nothing = FromOn doc t first stop class stop
Halved doc t first stop class Sought.Unknown = Unit {0}

-- the lesser of two answers, if both are known
abbrev pub lesser_of : Sought → Sought → Sought
lesser_of Sought.Unknown b = Sought.Unknown
lesser_of Sought.Nothing b = b
lesser_of (Sought.At x) Sought.Unknown = Sought.Unknown
lesser_of (Sought.At x) Sought.Nothing = Sought.At x
lesser_of (Sought.At x) (Sought.At y) = elim (ltb x y) [
  | true ↦ Sought.At x
  | false ↦ Sought.At y
]

-- what the search in both answers
abbrev pub Joined : List ℕ → List ℕ → ℕ → ℕ → Sought → Type 0
Joined doc t first stop (Sought.At i) = Least doc t (λ w. Mem w (siblings t stop stop first)) stop i
Joined doc t first stop Sought.Nothing = Least doc t (λ w. Mem w (siblings t stop stop first)) stop stop
Joined doc t first stop Sought.Unknown = Unit {0}

-- what the search in cells requires: a family, and a stretch of free cells after its first record
pub record Ready (doc t : List ℕ) (first stop last : ℕ) : Type 0 where
  pub family : Family doc t first stop
  pub some : 0 < first
  pub wide : first < last
  pub small : last < 4294967296
  pub room : 9 * last ≤ length t
