-- What a query answers, way by way: each refusal in rule 9's order, and the list filled.
-- Assumes nothing.
use Prim.Native.Nat.{ℕ, suc, ◌+◌, ◌/◌, ◌≤◌, ◌<◌}
use mathlib.Core.Path.{◌≡◌, refl, sym, ap, ◌∙◌}
use mathlib.Core.List.{List, [], ◌∷◌}
use mathlib.Core.Bool.{false}
use native.Mathlib.Omega.{arith}
use lib.ListN.{length, set, length-set}
use lib.Dec.{eqb}
use lib.Seq.{sets}
use borrow.Author.Tests.{lt-ltb, le-leb, lt-leb}
use Rattle.form.specs.Form.{Form}
use Rattle.form.specs.Answer.{got, no, more_matches, over_limit, no_table, depth_limit, Count, counted, failed}
use Rattle.form.specs.Spans.{over}
use Rattle.form.specs.Table.{Forest, none, node, value_of}
use Rattle.form.specs.Tables.{Fair, IsTable, Within}
use Rattle.form.specs.Paths.{Step, fits, paths, matches}
use Rattle.form.specs.Query.{spelt, shallow, asked, within, Finds, QueryIs}
use Rattle.form.proofs.Table.{sets_over, size-one}
use Rattle.form.proofs.Tables.{table-sits, table-length, fair-inner}
use Rattle.form.proofs.Paths.{paths-length, which-length, tree-paths}
use Rattle.query_steps.specs.Steps.{steps_from}
use Rattle.query_steps.specs.Spelling.{TakenIs}
use Rattle.query_steps.specs.declared.Query.{Query}
use Rattle.query.specs.Found.{depth_out}
use Rattle.std.specs.Prelude.{Result, Ok, Err}
use Rattle.form.specs.Refusals.{number_of}
use Rattle.form.specs.declared.refusals.Refused.{Refused}
use Rattle.query.specs.Sides.{Side}
use Rattle.query.specs.Walks.{put_at, noted, Walks}

-- ---- the list

-- With room for all of them they stand one after the other.
noted-all : (c : ℕ) (ms l : List ℕ) → c + length ms ≤ length l → noted c ms l ≡ sets l c ms
unfolding noted put_at
noted-all c [] l h = refl
noted-all c (m ∷ ms) l h =
    let long = length-set l c m in
    rw (lt-ltb c (length l) (omega arith)) (noted-all (suc c) ms (set l c m) (omega arith))

-- ---- the table's records

-- All records of a table side by side: the root.
abbrev pub table-side : (d : ℕ) (t : List ℕ) (i : IsTable d t) → Side d t 0 (length t / 9)
table-side d t i = record {
  forest = node i.head i.inner none;
  element = false;
  sits = table-sits d t i;
  fair = i.fair;
  ends = omega (arith, table-length d t i, size-one i.head i.inner);
}

-- None of them stands too deep.
pub table-fine : (d : ℕ) (t : List ℕ) (r : Result (Unit {0}) Refused) → ((d' : ℕ) (g : Side d' t 0 (length t / 9)) → depth_out r ≡ shallow depth_limit 0 g.forest) → r ≡ Ok tt
    → (i : IsTable d t) → shallow depth_limit 0 (node i.head i.inner none) ≡ got tt
table-fine d t r e f i = sym (e d (table-side d t i)) ∙ ap depth_out f

-- ---- room for the matches

-- No more were counted than there is room.
pub room-counted : {ms k k' : List ℕ} {r room : ℕ} → Walks ms 0 k r k' → r ≤ room → length ms ≤ room
room-counted w h = let c = w.counted in omega arith

-- There is a word for every record, and no more tags match than there are records.
pub room-each : (form : Form) (doc t : List ℕ) (i : IsTable (length doc) t) (ss : List Step) {room : ℕ} → length t / 9 ≤ room → length (matches (value_of form doc i.head i.inner) ss) ≤ room
unfolding matches
room-each form doc t i ss h =
    let entries : eqb i.head.kind 9 ≡ false = rw i.compound in
    let fair : Fair (length doc) false i.inner = rw entries at (fair-inner (length doc) false i.head i.inner none i.fair) in
    let ends = (table-side (length doc) t i).ends in
    omega (
      arith,
      size-one i.head i.inner,
      which-length (fits ss) 0 (paths (value_of form doc i.head i.inner)),
      ap length (tree-paths form doc (length doc) i.head i.inner fair),
      paths-length doc 10 0 [] i.inner,
    )

-- ---- what asking gives

module _ (form : Form) (doc q : List ℕ) (t : List ℕ) (i : IsTable (length doc) t) where
  abbrev root : Forest
  root = node i.head i.inner none

  abbrev tags : List Step → List ℕ
  tags ss = matches (value_of form doc i.head i.inner) ss

  asked-deep : (n p : ℕ) → shallow depth_limit 0 root ≡ no n p → asked form doc q i.head i.inner ≡ no n p
  unfolding asked
  asked-deep n p e = rw e

  asked-bad : (n p : ℕ) → shallow depth_limit 0 root ≡ got tt → spelt form q ≡ no n p → asked form doc q i.head i.inner ≡ no n p
  unfolding asked
  asked-bad n p e f = rw (e, f)

  asked-got : (ss : List Step) → shallow depth_limit 0 root ≡ got tt → spelt form q ≡ got ss → asked form doc q i.head i.inner ≡ got (tags ss)
  unfolding asked
  asked-got ss e f = rw (e, f)

  -- A refusal that carries no count.
  finds-no : (n p : ℕ) (l : List ℕ) (c : Count) → c ≡ failed n p 0 → asked form doc q i.head i.inner ≡ no n p → Finds (within (length l) (asked form doc q i.head i.inner)) l c l
  finds-no n p l c e f = rw f (record { answer_is = e; list_is = refl })

  -- 7.
  pub finds-deep : (x : Refused) (l : List ℕ) → depth_out (Err x) ≡ shallow depth_limit 0 root
      → Finds (within (length l) (asked form doc q i.head i.inner)) l (failed (number_of x.refusal) x.place 0) l
  finds-deep x l e = finds-no (number_of x.refusal) x.place l _ refl (asked-deep (number_of x.refusal) x.place (sym e))

  module _ (fine : shallow depth_limit 0 root ≡ got tt) where
    -- 14.
    pub finds-bad : (x : Refused) (l : List ℕ) → TakenIs form q (Err x) → Finds (within (length l) (asked form doc q i.head i.inner)) l (failed (number_of x.refusal) x.place 0) l
    finds-bad x l e = finds-no (number_of x.refusal) x.place l _ refl (asked-bad (number_of x.refusal) x.place fine (sym e.is))

    module _ (query : Query) (is : TakenIs form q (Ok query)) (l : List ℕ) where
      asks : asked form doc q i.head i.inner ≡ got (tags (steps_from q query 0))
      asks = asked-got (steps_from q query 0) fine (sym is.is)

      -- 24: the matches were counted, with a list k of the walk's own.
      pub finds-short : {r : ℕ} {k k' : List ℕ} → Walks (tags (steps_from q query 0)) 0 k r k' → length l < r
          → Finds (within (length l) (asked form doc q i.head i.inner)) l (failed more_matches 0 r) l
      finds-short {r} {k} {k'} w h =
          let ms = tags (steps_from q query 0) in
          let c : r ≡ length ms = let x = w.counted in omega arith in
          rw (asks, lt-leb (length ms) (length l) (omega arith)) (record { answer_is = ap (failed more_matches 0) c; list_is = refl })

      -- The list is filled.
      pub finds-full : length (tags (steps_from q query 0)) ≤ length l → {r : ℕ} {l' : List ℕ} → Walks (tags (steps_from q query 0)) 0 l r l'
          → Finds (within (length l) (asked form doc q i.head i.inner)) l (counted r) l'
      finds-full room {r} {l'} w =
          let ms = tags (steps_from q query 0) in
          let c : r ≡ length ms = let x = w.counted in omega arith in
          let written : l' ≡ over l 0 ms = w.listed ∙ noted-all 0 ms l (omega arith) ∙ sets_over ms l 0 (omega arith) in
          rw (asks, le-leb (length ms) (length l) room) (record { answer_is = ap counted c; list_is = written })

-- ---- the whole answer

module _ (form : Form) (doc t q l : List ℕ) where
  -- 9.
  pub query-large : (Within (length doc) t → ⊥) → (c : Count) → c ≡ failed over_limit 0 0 → QueryIs form doc t q l c l
  query-large n c e = record {
    large = λ _. record { answer_is = e; list_is = refl };
    unfit = λ w _. absurd (n w);
    fit = λ w _. absurd (n w);
  }

  -- 10.
  pub query-unfit : Within (length doc) t → (IsTable (length doc) t → ⊥) → (c : Count) → c ≡ failed no_table 0 0 → QueryIs form doc t q l c l
  query-unfit w n c e = record {
    large = λ m. absurd (m w);
    unfit = λ _ _. record { answer_is = e; list_is = refl };
    fit = λ _ i. absurd (n i);
  }

  -- A table is asked.
  pub query-fit : Within (length doc) t → IsTable (length doc) t → (c : Count) (l' : List ℕ)
      → ((i : IsTable (length doc) t) → Finds (within (length l) (asked form doc q i.head i.inner)) l c l') → QueryIs form doc t q l c l'
  query-fit w i c l' f = record {
    large = λ m. absurd (m w);
    unfit = λ _ n. absurd (n i);
    fit = λ _ j. f j;
  }
