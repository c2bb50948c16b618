-- What is claimed of queries (demand 3): what a read wrote can be asked, and the answer is the tags of the document whose paths fit the
-- query, each once, in file order, and no other. The proofs are in proofs/Queries.antt, under the names given here.
-- Assumes nothing.
use Rattle.std.specs.Prelude.{ℕ, zero, suc, ◌≤◌, ◌<◌, ◌≡◌, ◌⊎◌, ◌↔◌, List, [], ◌∷◌, true, length}
use Rattle.form.specs.Form.{Form}
use Rattle.form.specs.Answer.{got, record_limit, Count}
use Rattle.form.specs.Tree.{Document}
use Rattle.form.specs.Table.{none, node, flat, value_of}
use Rattle.form.specs.Tables.{IsTable, Within}
use Rattle.form.specs.Reading.{One, document_at}
use Rattle.form.specs.Paths.{Hop, Step, fits, paths, matches}
use Rattle.form.specs.Query.{spelt, within, Finds, QueryIs}
use Rattle.demands.specs.Reading.{Bytes}

-- The words of the records that a read wrote, and no others.
abbrev pub words_of : One → List ℕ
words_of x = flat 0 0 (node x.head x.inner none)

-- `tabled`: what a read writes forms a table, within the limits of rule 7's check.
abbrev pub IsTabled : Form → Type 0
IsTabled form =
    (doc : List ℕ) → Bytes doc → (room : ℕ) (x : One) → room ≤ record_limit → document_at form doc room ≡ got x
    → IsTable (length doc) (words_of x) × Within (length doc) (words_of x)

-- `answered`: whoever keeps a query's promise answers, of a document that a read accepts, with exactly its records, and of a query that
-- spells some steps, with the matches of the document's tree: their number, and the list filled with them from its beginning on; or
-- refusal 24 with their number, where the list is too short for them. No other refusal is left.
abbrev pub IsAnswered : Form → Type 0
IsAnswered form =
    (doc : List ℕ) → Bytes doc → (room : ℕ) (x : One) → room ≤ record_limit → document_at form doc room ≡ got x
    → (q : List ℕ) (ss : List Step) → spelt form q ≡ got ss → (l : List ℕ) (answer : Count) (l' : List ℕ) → QueryIs form doc (words_of x) q l answer l'
    → Finds (within (length l) (got (matches (value_of form doc x.head x.inner) ss))) l answer l'

-- Each number is below the next.
abbrev pub Ascends : List ℕ → Type 0
Ascends [] = Unit {0}
Ascends (m ∷ []) = Unit {0}
Ascends (m ∷ (n ∷ ms)) = (m < n) × Ascends (n ∷ ms)

-- `ascending`: the matches stand in file order, and none stands there twice.
abbrev pub IsAscending : Type 0
IsAscending = (d : Document) (ss : List Step) → Ascends (matches d ss)

-- A number is one of those listed.
abbrev pub Among : ℕ → List ℕ → Type 0
Among n [] = ⊥
Among n (m ∷ ms) = (n ≡ m) ⊎ Among n ms

-- The path at place n of a list of paths, counted from 0, is p.
abbrev pub PathAt : List (List Hop) → ℕ → List Hop → Type 0
PathAt [] n p = ⊥
PathAt (x ∷ xs) zero p = x ≡ p
PathAt (x ∷ xs) (suc n) p = PathAt xs n p

-- `exact`: a number is a match exactly if the tag at that place of the file has a path that fits.
abbrev pub IsExact : Type 0
IsExact =
    (d : Document) (ss : List Step) (n : ℕ) → Among n (matches d ss) ↔ ((p : List Hop) × PathAt (paths d) n p × (fits ss p ≡ true))
