-- Rule 7 record by record, nearly in its own words: what each record's words must be for all of them to form a table. `get n k` is word k of
-- record n, in a table or on lines; `up` says whether a record names its parent, as 02 [7] demands and 01's own edition does not ([8]).
-- proofs/Rows.antt shows that this says what Tables.antt says of the tree (`rows-iff`).
-- Assumes nothing.
use Rattle.std.specs.Prelude.{ℕ, suc, ◌+◌, ◌≤◌, ◌<◌, ◌≡◌, ◌⊎◌, Bool, true, eqb}
use Rattle.form.specs.Answer.{pick}
use Rattle.form.specs.Table.{holds}
use Rattle.form.specs.Tables.{leaf_fits}

-- Record j as a child in container p, which ends at e: it ends after itself and not past e, an element of a list (l) has no name,
-- and its parent is p.
pub record ChildIs (get : ℕ → ℕ → ℕ) (up l : Bool) (p e j : ℕ) : Type 0 where
  pub on : j < get j 7
  pub within : get j 7 ≤ e
  pub nameless : l ≡ true → (get j 1 ≡ 0) × (get j 2 ≡ 0)
  pub parent : up ≡ true → get j 8 ≡ p

-- Children of p from record j up to e, each beginning where the one before it ends, and how many.
pub data Chain (get : ℕ → ℕ → ℕ) (up l : Bool) (p e : ℕ) : ℕ → ℕ → Type 0 where
  stop : Chain get up l p e e 0
  hop : {j c : ℕ} → ChildIs get up l p e j → Chain get up l p e (get j 7) c → Chain get up l p e j (suc c)

-- Record i as one that holds no records, in a document of d bytes.
pub record LeafRow (d : ℕ) (get : ℕ → ℕ → ℕ) (i : ℕ) : Type 0 where
  pub fits : leaf_fits (get i 0) (get i 4) (get i 5) ≡ true
  pub body : get i 3 + get i 4 ≤ d
  pub plain : get i 6 ≡ 0
  pub next : get i 7 ≡ i + 1

-- The list kind that record i must have: the kind of the record after it, if it is a list with children.
unfoldable pub list_kind_at : (ℕ → ℕ → ℕ) → ℕ → ℕ
list_kind_at get i = pick (eqb (get i 0) 9) (pick (eqb (get i 5) 0) 0 (get (i + 1) 0)) 0

-- Record i of n as a list or a compound.
pub record ContainerRow (get : ℕ → ℕ → ℕ) (up : Bool) (n i : ℕ) : Type 0 where
  pub kind : holds (get i 0) ≡ true
  pub start : get i 3 ≡ 0
  pub long : get i 4 ≡ 0
  pub listed : get i 6 ≡ list_kind_at get i
  pub within : get i 7 ≤ n
  pub tiled : Chain get up (eqb (get i 0) 9) i (get i 7) (i + 1) (get i 5)

-- Record i of n.
pub record RowIs (d : ℕ) (get : ℕ → ℕ → ℕ) (up : Bool) (n i : ℕ) : Type 0 where
  pub name : get i 1 + get i 2 ≤ d
  pub rest : LeafRow d get i ⊎ ContainerRow get up n i

-- All of n records, the first of which is a compound that holds the others; its own parent word is 0.
pub record RowsAre (d : ℕ) (get : ℕ → ℕ → ℕ) (up : Bool) (n : ℕ) : Type 0 where
  pub some : 0 < n
  pub compound : get 0 0 ≡ 10
  pub whole : get 0 7 ≡ n
  pub top : up ≡ true → get 0 8 ≡ 0
  pub each : (i : ℕ) → i < n → RowIs d get up n i
