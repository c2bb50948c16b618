-- Keys in an output, kept by their places in two runs, each in ascending order of their bytes: what refusal 6 asks of a compound's keys (rule 15).
-- Assumes nothing.
use Rattle.std.specs.Prelude.{ℕ, zero, suc, ◌+◌, ◌-◌, ◌*◌, ◌/◌, ◌≤◌, ◌<◌, List, [], ◌∷◌, ◌++◌, Bool, true, false, ◌&&◌, ◌||◌, ◌≡◌, length, get_or, take, drop, ltb, eqb, Option, Some, None}
use Rattle.std.specs.declared.cmp.Ordering.{Ordering}
use Rattle.form.specs.Numbers.{big_endian}
use Rattle.form.specs.Spans.{part, same}
use Rattle.snbt_form.specs.Text.{known}

-- The length that stands at place p.
abbrev pub size_at : List ℕ → ℕ → ℕ
size_at o p = big_endian (part o p 2)

-- The name whose length stands at place p.
unfoldable pub name_at : List ℕ → ℕ → List ℕ
name_at o p = part o (p + 2) (size_at o p)

-- The names at n places from base on, in order.
unfoldable pub names_in : List ℕ → List ℕ → ℕ → ℕ → List (List ℕ)
names_in o k base zero = []
names_in o k base (suc n) = name_at o (get_or k base 0) ∷ names_in o k (suc base) n

-- Whether a list comes before another: by the first byte that differs, and what has ended before what has not.
unfoldable pub below : List ℕ → List ℕ → Bool
below [] [] = false
below [] (y ∷ ys) = true
below (x ∷ xs) [] = false
below (x ∷ xs) (y ∷ ys) = ltb x y || (eqb x y && below xs ys)

-- The order of two lists, as the code says it.
abbrev pub OrderIs : List ℕ → List ℕ → Ordering → Type 0
OrderIs a b Ordering.Less = below a b ≡ true
OrderIs a b Ordering.Equal = a ≡ b
OrderIs a b Ordering.Greater = below b a ≡ true

-- ---- a run

-- The places from a up to b are those of names that end at or before `at`, in ascending order of their bytes, no two the same.
pub record Rising (o k : List ℕ) (a b at : ℕ) : Type 0 where
  pub within : at ≤ length o
  pub low : a ≤ b
  pub high : b ≤ length k
  pub ends : (i : ℕ) → a ≤ i → i < b → get_or k i 0 + (2 + size_at o (get_or k i 0)) ≤ at
  pub rise : (i j : ℕ) → a ≤ i → i < j → j < b → below (name_at o (get_or k i 0)) (name_at o (get_or k j 0)) ≡ true

-- A key belongs from index a on and no further than index b: the names before a are below it, and it is below those from b on.
pub record Sides (o k : List ℕ) (base top : ℕ) (s : List ℕ) (a b : ℕ) : Type 0 where
  pub low : base ≤ a
  pub order : a ≤ b
  pub high : b ≤ top
  pub before : (j : ℕ) → base ≤ j → j < a → below (name_at o (get_or k j 0)) s ≡ true
  pub behind : (j : ℕ) → b ≤ j → j < top → below s (name_at o (get_or k j 0)) ≡ true

-- A key is not in a run, and belongs at an index.
pub record FreeIn (o k : List ℕ) (base top : ℕ) (s : List ℕ) (i : ℕ) : Type 0 where
  pub new : known s (names_in o k base (top - base)) ≡ false
  pub sides : Sides o k base top s i i

-- Where a key belongs in a run, or that it is there already.
abbrev pub SpotIn : List ℕ → List ℕ → ℕ → ℕ → List ℕ → Option ℕ → Type 0
SpotIn o k base top s None = known s (names_in o k base (top - base)) ≡ true
SpotIn o k base top s (Some i) = FreeIn o k base top s i

-- ---- the two runs of a compound

-- Where the second run of the keys from base up to top begins: behind as many whole 512s as there are.
unfoldable pub joint_of : ℕ → ℕ → ℕ
joint_of base top = base + (top - base) / 512 * 512

-- Two runs that have no name in common.
pub record Runs (o k : List ℕ) (base mid top at : ℕ) : Type 0 where
  pub first : Rising o k base mid at
  pub second : Rising o k mid top at
  pub apart : (i j : ℕ) → base ≤ i → i < mid → mid ≤ j → j < top → same (name_at o (get_or k i 0)) (name_at o (get_or k j 0)) ≡ false

-- The keys of a compound: the places from base up to top, in two runs.
abbrev pub Kept : List ℕ → List ℕ → ℕ → ℕ → ℕ → Type 0
Kept o k base top at = Runs o k base (joint_of base top) top at

-- A key is not there, and belongs at an index of the second run.
pub record FreeAt (o k : List ℕ) (base top : ℕ) (s : List ℕ) (i : ℕ) : Type 0 where
  pub new : known s (names_in o k base (top - base)) ≡ false
  pub sides : Sides o k (joint_of base top) top s i i

-- Where a key belongs among those of the open compound, or that it is there already.
abbrev pub SpotIs : List ℕ → List ℕ → ℕ → ℕ → List ℕ → Option ℕ → Type 0
SpotIs o k base top s None = known s (names_in o k base (top - base)) ≡ true
SpotIs o k base top s (Some i) = FreeAt o k base top s i

-- ---- one key more

-- The places with another put in at an index: those from the index up to top move up by one.
abbrev pub put_in : List ℕ → ℕ → ℕ → ℕ → List ℕ
put_in k top i p = take i k ++ (p ∷ (part k i (top - i) ++ drop (top + 1) k))

-- A name stands at place p with its length before it, and ends at or before `at`.
pub record Named (o : List ℕ) (p at : ℕ) (s : List ℕ) : Type 0 where
  pub size : size_at o p ≡ length s
  pub is : part o (p + 2) (length s) ≡ s
  pub ends : p + (2 + length s) ≤ at

-- A key that stands at place p behind the others and belongs at index i among them.
pub record Comes (o k : List ℕ) (base top i p : ℕ) : Type 0 where
  pub kept : Kept o k base top p
  pub room : top < length k
  pub ends : p + (2 + size_at o p) ≤ length o
  pub free : FreeAt o k base top (name_at o p) i

-- It is among them, and the places before and behind theirs are as they were.
pub record Added (o k : List ℕ) (base top p : ℕ) (k' : List ℕ) : Type 0 where
  pub kept : Kept o k' base (top + 1) (p + (2 + size_at o p))
  pub alike : (x : List ℕ) → known x (names_in o k' base (top + 1 - base)) ≡ (same (name_at o p) x || known x (names_in o k base (top - base)))
  pub around : take base k' ≡ take base k
  pub beyond : (j : ℕ) → top + 1 ≤ j → get_or k' j 0 ≡ get_or k j 0

-- The places from a up to b have moved up by n, and those around are as they were.
pub record Lifted (k : List ℕ) (a b n : ℕ) (k' : List ℕ) : Type 0 where
  pub front : take (a + n) k' ≡ take (a + n) k
  pub moved : (j : ℕ) → a ≤ j → j < b → get_or k' (j + n) 0 ≡ get_or k j 0
  pub behind : (j : ℕ) → b + n ≤ j → get_or k' j 0 ≡ get_or k j 0

-- The second run, 512 keys from mid on, but for its first n has been merged into the first, which is as it was up to `high`: what is
-- merged stands from high + n on, above all that is not.
pub record Merging (o k : List ℕ) (base mid n high : ℕ) (k' : List ℕ) : Type 0 where
  pub low : base ≤ high
  pub to : high ≤ mid
  pub front : take high k' ≡ take high k
  pub beyond : (j : ℕ) → mid + 512 ≤ j → get_or k' j 0 ≡ get_or k j 0
  pub ends : (at : ℕ) → ((j : ℕ) → base ≤ j → j < mid + 512 → get_or k j 0 + (2 + size_at o (get_or k j 0)) ≤ at)
      → (j : ℕ) → high + n ≤ j → j < mid + 512 → get_or k' j 0 + (2 + size_at o (get_or k' j 0)) ≤ at
  pub rise : (i j : ℕ) → high + n ≤ i → i < j → j < mid + 512 → below (name_at o (get_or k' i 0)) (name_at o (get_or k' j 0)) ≡ true
  pub above : (i j : ℕ) → base ≤ i → i < high → high + n ≤ j → j < mid + 512 → below (name_at o (get_or k i 0)) (name_at o (get_or k' j 0)) ≡ true
  pub over : (i j : ℕ) → mid ≤ i → i < mid + n → high + n ≤ j → j < mid + 512 → below (name_at o (get_or k i 0)) (name_at o (get_or k' j 0)) ≡ true
  pub alike : (x : List ℕ) → (known x (names_in o k base (high - base)) || (known x (names_in o k mid n) || known x (names_in o k' (high + n) (mid + 512 - (high + n)))))
      ≡ known x (names_in o k base (mid + 512 - base))
