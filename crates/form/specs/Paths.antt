-- Rule 9 on the tree: the path of each tag, which paths fit some steps, and the tags that match. No table and no span is in it.
-- Assumes nothing.
use Rattle.std.specs.Prelude.{ℕ, suc, List, [], ◌∷◌, ◌++◌, Bool, true, false, ◌||◌, ◌&&◌, eqb}
use Rattle.form.specs.Spans.{same}
use Rattle.form.specs.Tree.{Tag, Tags, Entries, byte, short, int, long, float, double, byte_array, string, list, compound, int_array, long_array, nil, more, ended, entry, Document}

-- One level of a path: the entry of a compound so named, or the element of a list, counted from 0.
pub data Hop : Type 0 where
  named : List ℕ → Hop
  item : ℕ → Hop

-- A step of a query: 01, 02, 03, 04.
pub data Step : Type 0 where
  name : List ℕ → Step
  index : ℕ → Step
  any : Step
  deep : Step

-- Whether a step that takes one level takes this one.
abbrev pub takes : Step → Hop → Bool
takes (name n) (named m) = same n m
takes (name n) (item j) = false
takes (index i) (named m) = false
takes (index i) (item j) = eqb i j
takes any (named m) = true
takes any (item j) = true
takes deep (named m) = true
takes deep (item j) = true

-- A step takes the first level and the rest fits what remains.
unfoldable pub one_then : Step → (List Hop → Bool) → List Hop → Bool
one_then s rest [] = false
one_then s rest (h ∷ hs) = takes s h && rest hs

-- 04 takes zero or more levels: the rest fits here, or further on.
unfoldable pub some_tail : (List Hop → Bool) → List Hop → Bool
some_tail rest [] = rest []
some_tail rest (h ∷ hs) = rest (h ∷ hs) || some_tail rest hs

abbrev pub is_empty : List Hop → Bool
is_empty [] = true
is_empty (h ∷ hs) = false

-- A path fits if its first step fits and the rest fits what remains; no step fits the root's path alone.
unfoldable pub fits : List Step → List Hop → Bool
fits [] hs = is_empty hs
fits (name n ∷ ss) hs = one_then (name n) (fits ss) hs
fits (index i ∷ ss) hs = one_then (index i) (fits ss) hs
fits (any ∷ ss) hs = one_then any (fits ss) hs
fits (deep ∷ ss) hs = some_tail (fits ss) hs

-- The paths of a tag, whose own is p, and of the tags in it, in file order. Array elements are not tags.
unfoldable mutual
  pub tag_paths : List Hop → Tag → List (List Hop)
  tag_paths p (byte v) = p ∷ []
  tag_paths p (short v) = p ∷ []
  tag_paths p (int v) = p ∷ []
  tag_paths p (long v) = p ∷ []
  tag_paths p (float b) = p ∷ []
  tag_paths p (double b) = p ∷ []
  tag_paths p (byte_array vs) = p ∷ []
  tag_paths p (string s) = p ∷ []
  tag_paths p (list ts) = p ∷ item_paths p 0 ts
  tag_paths p (compound es) = p ∷ entry_paths p es
  tag_paths p (int_array vs) = p ∷ []
  tag_paths p (long_array vs) = p ∷ []

  pub item_paths : List Hop → ℕ → Tags → List (List Hop)
  item_paths p i nil = []
  item_paths p i (more t ts) = tag_paths (p ++ (item i ∷ [])) t ++ item_paths p (suc i) ts

  pub entry_paths : List Hop → Entries → List (List Hop)
  entry_paths p ended = []
  entry_paths p (entry n t es) = tag_paths (p ++ (named n ∷ [])) t ++ entry_paths p es

-- The paths of a document's tags: the root's is empty.
unfoldable pub paths : Document → List (List Hop)
paths d = tag_paths [] (compound d.root)

-- The numbers, from n on, of the paths of which f holds.
unfoldable pub which : (List Hop → Bool) → ℕ → List (List Hop) → List ℕ
which f n [] = []
which f n (p ∷ ps) = elim (f p) [ true ↦ n ∷ which f (suc n) ps | false ↦ which f (suc n) ps ]

-- Demand 3: every tag whose path fits, once, in file order, and no other.
unfoldable pub matches : Document → List Step → List ℕ
matches d ss = which (fits ss) 0 (paths d)
