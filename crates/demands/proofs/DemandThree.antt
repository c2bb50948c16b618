-- Demand 3 on the calls: the records that a read counted are a table that stands for the document, of which the query's definition lists
-- the matches.
-- Assumes nothing.
use Prim.Native.Nat.{ℕ, ◌≤◌, ◌<◌}
use mathlib.Core.Path.{◌≡◌, sym, ap, subst, ◌∙◌}
use mathlib.Core.List.{List, [], ◌∷◌}
use mathlib.Core.Bool.{Bool, true, false}
use lib.ListN.{length, take}
use lib.Dec.{leb}
use borrow.Author.Tests.{le-leb, lt-leb}
use Rattle.form.specs.Form.{Form}
use Rattle.form.specs.Answer.{got, pick, more_matches, record_limit, Count}
use Rattle.form.specs.Spans.{over}
use Rattle.form.specs.Tree.{Tag, compound, Document}
use Rattle.form.specs.Layout.{LayoutIn}
use Rattle.form.specs.Table.{value_of}
use Rattle.form.specs.Reading.{One, document_at, room_of}
use Rattle.form.specs.Paths.{Hop, paths, matches}
use Rattle.form.specs.Query.{matched, refused, within, Finds, QueryIs}
use Rattle.form.proofs.Payloads.{room-le}
use Rattle.calls.specs.Words.{beside_words}
use Rattle.demands.specs.Reading.{Bytes}
use Rattle.demands.specs.Queries.{words_of, PathAt}
use Rattle.demands.specs.Numbered.{Leads, StandsFor}
use Rattle.demands.specs.DemandThree.{Listed, IsDemandThree}
use Rattle.demands.proofs.Called.{held}
use Rattle.demands.proofs.Numbered.{numbered}
use Rattle.demands.proofs.Reading.{sound}
use Rattle.demands.proofs.Queries.{tabled, tabled-value, answered, ascending, exact}

-- What the words and the list are, with room for the matches and without.
module _ (ms l l' b : List ℕ) (r : Count) (w : b ≡ beside_words r) (f : Finds (within (length l) (got ms)) l r l') where
  found-by : (v : Bool) → leb (length ms) (length l) ≡ v → Finds (pick v (matched ms) (refused more_matches 0 (length ms))) l r l'
  found-by v e = subst (λ (x : Bool). Finds (pick x (matched ms) (refused more_matches 0 (length ms))) l r l') e f

  enough : length ms ≤ length l → (b ≡ 0 ∷ 0 ∷ length ms ∷ 0 ∷ 0 ∷ 0 ∷ 0 ∷ 0 ∷ []) × (l' ≡ over l 0 ms)
  enough le = let g = found-by true (le-leb (length ms) (length l) le) in (w ∙ ap beside_words g.answer_is, g.list_is)

  short : length l < length ms → (b ≡ more_matches ∷ 0 ∷ length ms ∷ 0 ∷ 0 ∷ 0 ∷ 0 ∷ 0 ∷ []) × (l' ≡ l)
  short lt = let g = found-by false (lt-leb (length ms) (length l) lt) in (w ∙ ap beside_words g.answer_is, g.list_is)

-- The records that a read wrote stand for the tags that the document's paths lead to.
tags : (form : Form) (doc : List ℕ) → Bytes doc → (room : ℕ) (x : One) → room ≤ record_limit → document_at form doc room ≡ got x → (n : ℕ) (p : List Hop)
    → PathAt (paths (value_of form doc x.head x.inner)) n p
    → (g : Tag) × Leads p (compound (value_of form doc x.head x.inner).root) g × StandsFor form doc (words_of x) n g
tags form doc bytes room x few e =
    subst (λ (d : Document). (n : ℕ) (p : List Hop) → PathAt (paths d) n p → (g : Tag) × Leads p (compound d.root) g × StandsFor form doc (words_of x) n g)
    (tabled-value form doc bytes room x few e) (numbered form doc (words_of x) (tabled form doc bytes room x few e).0)

pub demand-three : (form : Form) → IsDemandThree form
demand-three form doc t t' a bytes r c n e q ss sp l l' b k =
    let accepted = held form doc t t' bytes r c n e in
    let x = accepted.0 in
    let y = accepted.1 in
    let room = room_of (length t) in
    let few = room-le (length t) in
    let s = sound form doc bytes room x y.is in
    let d = value_of form doc x.head x.inner in
    let i : QueryIs form doc (words_of x) q l k.result l' = subst (λ (v : List ℕ). QueryIs form doc v q l k.result l') y.words k.is in
    let f = answered form doc bytes room x few y.is q ss sp l k.result l' i in
    let listed : Listed form doc (words_of x) d ss l l' b = record {
      found = matches d ss;
      every = exact d ss;
      order = ascending d ss;
      tag = tags form doc bytes room x few y.is;
      enough = enough (matches d ss) l l' b k.result k.words_are f;
      short = short (matches d ss) l l' b k.result k.words_are f;
    } in (
      d,
      subst (λ (m : ℕ). LayoutIn form d (take m doc)) y.consumed s.laid,
      s.lawful,
      subst (λ (v : List ℕ). Listed form doc v d ss l l' b) (sym y.words) listed,
    )
