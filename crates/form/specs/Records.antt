-- Records as a table and a walk over it have them: where their words stand, and the path to each of them.
-- Assumes nothing.
use Rattle.std.specs.Prelude.{ℕ, suc, ◌+◌, ◌*◌, ◌≤◌, ◌≡◌, List, [], ◌∷◌, ◌++◌, Bool, true, length, eqb}
use Rattle.form.specs.Answer.{pick}
use Rattle.form.specs.Spans.{part}
use Rattle.form.specs.Table.{Head, Forest, none, node, size, word}
use Rattle.form.specs.Paths.{Hop, named, item}

-- Record n of a table has a head's words, and ends at e. Its ninth word is `Under`'s.
pub record Stands (t : List ℕ) (n : ℕ) (h : Head) (e : ℕ) : Type 0 where
  pub room : 9 * n + 9 ≤ length t
  pub kind : word t n 0 ≡ h.kind
  pub name : word t n 1 ≡ h.name
  pub name_length : word t n 2 ≡ h.name_length
  pub start : word t n 3 ≡ h.start
  pub size : word t n 4 ≡ h.size
  pub count : word t n 5 ≡ h.count
  pub list_kind : word t n 6 ≡ h.list_kind
  pub end : word t n 7 ≡ e

-- The words of some records stand in a table from record n on.
unfoldable pub Sits : List ℕ → ℕ → Forest → Type 0
Sits t n none = Unit {0}
Sits t n (node h inner later) =
    Stands t n h (n + 1 + size inner) × Sits t (n + 1) inner × Sits t (n + 1 + size inner) later

-- Their ninth words name their parents (02, [7]): p for the records side by side from n on, and each of them for those in it.
unfoldable pub Under : List ℕ → ℕ → ℕ → Forest → Type 0
Under t p n none = Unit {0}
Under t p n (node h inner later) = (word t n 8 ≡ p) × Under t n (n + 1) inner × Under t p (n + 1 + size inner) later

-- ---- the same, wherever words are got from: `get n k` is word k of record n, as in Rows.antt

-- Record n has a head's words, and ends at e.
pub record StandsAt (get : ℕ → ℕ → ℕ) (n : ℕ) (h : Head) (e : ℕ) : Type 0 where
  pub kind : get n 0 ≡ h.kind
  pub name : get n 1 ≡ h.name
  pub name_length : get n 2 ≡ h.name_length
  pub start : get n 3 ≡ h.start
  pub size : get n 4 ≡ h.size
  pub count : get n 5 ≡ h.count
  pub list_kind : get n 6 ≡ h.list_kind
  pub end : get n 7 ≡ e

-- The words of some records are got from record n on.
unfoldable pub SitsAt : (ℕ → ℕ → ℕ) → ℕ → Forest → Type 0
SitsAt get n none = Unit {0}
SitsAt get n (node h inner later) =
    StandsAt get n h (n + 1 + size inner) × SitsAt get (n + 1) inner × SitsAt get (n + 1 + size inner) later

-- Their ninth words name their parents, if records have such a word (up).
unfoldable pub UnderAt : (ℕ → ℕ → ℕ) → Bool → ℕ → ℕ → Forest → Type 0
UnderAt get up p n none = Unit {0}
UnderAt get up p n (node h inner later) =
    (up ≡ true → get n 8 ≡ p) × UnderAt get up n (n + 1) inner × UnderAt get up p (n + 1 + size inner) later

-- ---- paths

-- The level from a record of kind k down to a child, which is number i in it: by name in a compound, by number in a list.
unfoldable pub hop_of : ℕ → ℕ → List ℕ → Hop
hop_of k i n = pick (eqb k 10) (named n) (item i)

module _ (doc : List ℕ) where
  -- The paths of records side by side and of those in them, in file order: k is the kind of the record that holds them, p its path,
  -- and i the number in it of the first.
  unfoldable pub record_paths : ℕ → ℕ → List Hop → Forest → List (List Hop)
  record_paths k i p none = []
  record_paths k i p (node h inner later) =
      (p ++ (hop_of k i (part doc h.name h.name_length) ∷ []))
      ∷ (record_paths h.kind 0 (p ++ (hop_of k i (part doc h.name h.name_length) ∷ [])) inner ++ record_paths k (suc i) p later)
