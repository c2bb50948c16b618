-- Demand 3, said of the calls that people link: of a document that `tikfazrul_read` accepts, asked through exactly the records that it
-- counted, `tikfazrul_query` lists every tag whose path fits, once each, in file order, and no other; a list that is too short gives the
-- true count and changes nothing. Which paths fit is said on the tree alone (form/specs/Paths.antt).
-- The proof is in proofs/DemandThree.antt.
-- Assumes nothing.
use Rattle.std.specs.Prelude.{ℕ, ◌*◌, ◌≤◌, ◌<◌, ◌≡◌, ◌↔◌, List, [], ◌∷◌, true, length, take}
use Rattle.form.specs.Form.{Form}
use Rattle.form.specs.Answer.{got, more_matches}
use Rattle.form.specs.Spans.{over}
use Rattle.form.specs.Tree.{Tag, compound, Document, LawfulIn}
use Rattle.form.specs.Layout.{LayoutIn}
use Rattle.form.specs.Paths.{Hop, Step, fits, paths}
use Rattle.form.specs.Query.{spelt}
use Rattle.calls.specs.Calls.{ReadCalled, QueryCalled}
use Rattle.demands.specs.Reading.{Bytes}
use Rattle.demands.specs.Queries.{Ascends, Among, PathAt}
use Rattle.demands.specs.Numbered.{Leads, StandsFor}

-- What the answer b and the list, l before and l' after, say of a document d that the words w stand for, and of some steps.
pub record Listed (form : Form) (doc w : List ℕ) (d : Document) (ss : List Step) (l l' b : List ℕ) : Type 0 where
  -- the numbers of the matches: of every tag whose path fits, and of no other
  pub found : List ℕ
  pub every : (n : ℕ) → Among n found ↔ ((p : List Hop) × PathAt (paths d) n p × (fits ss p ≡ true))
  -- once each, in file order
  pub order : Ascends found
  -- number n is that of the record of the tag to which path n leads
  pub tag : (n : ℕ) (p : List Hop) → PathAt (paths d) n p → (g : Tag) × Leads p (compound d.root) g × StandsFor form doc w n g
  -- with room for them they stand in the list, and nothing else of it changes
  pub enough : length found ≤ length l → (b ≡ 0 ∷ 0 ∷ length found ∷ 0 ∷ 0 ∷ 0 ∷ 0 ∷ 0 ∷ []) × (l' ≡ over l 0 found)
  -- without it the answer is 24 with their true number, and the list is as it was
  pub short : length l < length found → (b ≡ more_matches ∷ 0 ∷ length found ∷ 0 ∷ 0 ∷ 0 ∷ 0 ∷ 0 ∷ []) × (l' ≡ l)

-- `demand-three`: for any document accepted with c bytes and n records, any query that spells some steps, and any list.
abbrev pub IsDemandThree : Form → Type 0
IsDemandThree form =
    (doc t t' a : List ℕ) → Bytes doc → ReadCalled form doc t t' a → (c n : ℕ) → a ≡ 0 ∷ 0 ∷ c ∷ n ∷ 0 ∷ 0 ∷ 0 ∷ 0 ∷ []
    → (q : List ℕ) (ss : List Step) → spelt form q ≡ got ss → (l l' b : List ℕ) → QueryCalled form doc (take (9 * n) t') q l l' b
    → (d : Document) × LayoutIn form d (take c doc) × LawfulIn form d × Listed form doc (take (9 * n) t') d ss l l' b
