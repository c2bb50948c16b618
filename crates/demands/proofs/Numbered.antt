-- Record n stands for the tag at the end of path n.
-- Assumes nothing.
use Prim.Native.Nat.{ℕ, zero, suc, ◌+◌, ◌-◌, ◌≤◌}
use mathlib.Core.Path.{◌≡◌, refl, sym, ap, subst, ◌∙◌}
use mathlib.Core.Logic.{◌⊎◌, inl, inr}
use mathlib.Core.List.{List, [], ◌∷◌, ◌++◌, append_assoc}
use mathlib.Core.Bool.{Bool, true, false}
use native.Mathlib.Omega.{arith}
use lib.ListN.{length}
use lib.Dec.{eqb}
use Rattle.form.specs.Form.{Form}
use Rattle.form.specs.Answer.{pick}
use Rattle.form.specs.Spans.{part}
use Rattle.form.specs.Tree.{Tag, compound}
use Rattle.form.specs.Table.{Head, Forest, none, node, size, tags_of, entries_of, value_by}
use Rattle.form.specs.Tables.{LeafIs, ContainerIs, Fair, IsTable}
use Rattle.form.specs.Paths.{Hop, named, item, paths}
use Rattle.form.proofs.Leaves.{held-kind}
use Rattle.form.specs.Records.{Sits, hop_of, record_paths}
use Rattle.form.proofs.Paths.{paths-length, tree-paths}
use Rattle.form.proofs.Tables.{sits-first, sits-inner, sits-later, fair-first, fair-inner, fair-later, table-sits}
use Rattle.demands.specs.Writing.{table_value}
use Rattle.demands.specs.Queries.{PathAt}
use Rattle.demands.specs.Numbered.{Nth, EntryOf, Leads, StandsFor, IsNumbered}

-- A place in one list after the other.
pub path-split : (ps qs : List (List Hop)) (m : ℕ) (q : List Hop) → PathAt (ps ++ qs) m q → PathAt ps m q ⊎ ((length ps ≤ m) × PathAt qs (m - length ps) q)
path-split [] qs m q h = let z : m - 0 ≡ m = omega arith in inr (omega arith, subst (λ (k : ℕ). PathAt qs k q) (sym z) h)
path-split (p ∷ ps) qs zero q h = inl h
path-split (p ∷ ps) qs (suc m) q h = go (path-split ps qs m q h)
  where
    go : PathAt ps m q ⊎ ((length ps ≤ m) × PathAt qs (m - length ps) q) → PathAt ps m q ⊎ ((suc (length ps) ≤ suc m) × PathAt qs (suc m - suc (length ps)) q)
    go (inl a) = inl a
    go (inr b) = let z : suc m - suc (length ps) ≡ m - length ps = omega arith in let l = b.0 in inr (omega arith, subst (λ (k : ℕ). PathAt qs k q) (sym z) b.1)

module _ (form : Form) (doc w : List ℕ) where
  -- The tag of a record.
  abbrev tag_of : Head → Forest → Tag
  tag_of h inner = value_by form doc h (tags_of form doc inner) (entries_of form doc inner)

  -- The path of a record that is number i in one of kind k and path p, and the paths of the records in it.
  abbrev path_of : ℕ → ℕ → List Hop → Head → List Hop
  path_of k i p h = p ++ (hop_of k i (part doc h.name h.name_length) ∷ [])

  abbrev paths_in : ℕ → ℕ → List Hop → Head → Forest → List (List Hop)
  paths_in k i p h inner = record_paths doc h.kind 0 (path_of k i p h) inner

  -- Where a hop leads among records side by side: by name in a compound (c), by number, from i on, in a list.
  abbrev Side : Bool → ℕ → Forest → Hop → Tag → Type 0
  Side true i f h u = (nm : List ℕ) × (h ≡ named nm) × EntryOf (entries_of form doc f) nm u
  Side false i f h u = (j : ℕ) × (h ≡ item (i + j)) × Nth (tags_of form doc f) j u

  record Found (c : Bool) (i n m : ℕ) (p q : List Hop) (f : Forest) : Type 0 where
    hop : Hop
    hs : List Hop
    u : Tag
    g : Tag
    path : q ≡ p ++ (hop ∷ hs)
    first : Side c i f hop u
    leads : Leads hs u g
    stands : StandsFor form doc w (n + m) g

  -- The first of them.
  side-first : (c : Bool) (i : ℕ) (h : Head) (inner later : Forest)
      → Side c i (node h inner later) (pick c (named (part doc h.name h.name_length)) (item i)) (tag_of h inner)
  unfolding tags_of entries_of EntryOf Nth
  side-first true i h inner later = (part doc h.name h.name_length, refl, inl (refl, refl))
  side-first false i h inner later = let z : i ≡ i + 0 = omega arith in (0, ap item z, refl)

  -- One after it.
  side-later : (c : Bool) (i : ℕ) (h : Head) (inner later : Forest) (x : Hop) (u : Tag) → Side c (suc i) later x u → Side c i (node h inner later) x u
  unfolding tags_of entries_of EntryOf Nth
  side-later true i h inner later x u s = (s.0, s.1, inr s.2)
  side-later false i h inner later x u s = let z : suc i + s.0 ≡ i + suc s.0 = omega arith in (suc s.0, s.1 ∙ ap item z, s.2)

  -- From a container down.
  down : (d : ℕ) (h : Head) (inner : Forest) → LeafIs d h inner ⊎ ContainerIs h inner → (n m : ℕ) (p q : List Hop)
      → PathAt (record_paths doc h.kind 0 p inner) m q
      → (Found (eqb h.kind 10) 0 n m p q inner)
      → (hs : List Hop) × (g : Tag) × (q ≡ p ++ hs) × Leads hs (tag_of h inner) g × StandsFor form doc w (n + m) g
  unfolding Leads value_by record_paths
  down d h inner (inl l) n m p q a f = absurd (rw l.bare at a)
  down d h inner (inr c) n m p q a f = go (held-kind h.kind c.kind)
    where
      go : (h.kind ≡ 9) ⊎ (h.kind ≡ 10) → (hs : List Hop) × (g : Tag) × (q ≡ p ++ hs) × Leads hs (tag_of h inner) g × StandsFor form doc w (n + m) g
      go (inl e) =
          let s : Side false 0 inner f.hop f.u = subst (λ (k : ℕ). Side (eqb k 10) 0 inner f.hop f.u) e f.first in
          let z : item (0 + s.0) ≡ item s.0 = ap item (omega arith) in
          (item s.0 ∷ f.hs, f.g, f.path ∙ ap (λ (x : Hop). p ++ (x ∷ f.hs)) (s.1 ∙ z), (tags_of form doc inner, f.u, rw e refl, s.2, f.leads), f.stands)
      go (inr e) =
          let s : Side true 0 inner f.hop f.u = subst (λ (k : ℕ). Side (eqb k 10) 0 inner f.hop f.u) e f.first in
          (named s.0 ∷ f.hs, f.g, f.path ∙ ap (λ (x : Hop). p ++ (x ∷ f.hs)) s.1, (entries_of form doc inner, f.u, rw e refl, s.2, f.leads), f.stands)

  -- One step of that: below the first of the records, or after it.
  step : (d : ℕ) (l : Bool) (h : Head) (inner later : Forest) → Fair d l (node h inner later) → (n : ℕ) → Sits w n (node h inner later)
      → (k i : ℕ) (p : List Hop) (m : ℕ) (q : List Hop)
      → ((r : List Hop) → PathAt (record_paths doc h.kind 0 r inner) m q → Found (eqb h.kind 10) 0 (n + 1) m r q inner)
      → ((m' : ℕ) → PathAt (record_paths doc k (suc i) p later) m' q → Found (eqb k 10) (suc i) (n + 1 + size inner) m' p q later)
      → PathAt (paths_in k i p h inner) m q
      ⊎ ((length (paths_in k i p h inner) ≤ m) × PathAt (record_paths doc k (suc i) p later) (m - length (paths_in k i p h inner)) q)
      → Found (eqb k 10) i n (suc m) p q (node h inner later)
  unfolding hop_of
  step d l h inner later fr n s k i p m q below after (inl b) =
      let x = hop_of k i (part doc h.name h.name_length) in
      let y = down d h inner (fair-first d l h inner later fr) (n + 1) m (p ++ (x ∷ [])) q b (below (p ++ (x ∷ [])) b) in
      let z : n + 1 + m ≡ n + suc m = omega arith in
      record {
        hop = x;
        hs = y.0;
        u = tag_of h inner;
        g = y.1;
        path = y.2 ∙ append_assoc p (x ∷ []) y.0;
        first = side-first (eqb k 10) i h inner later;
        leads = y.3;
        stands = subst (λ (v : ℕ). StandsFor form doc w v y.1) z y.4;
      }
  step d l h inner later fr n s k i p m q below after (inr b) =
      let r = path_of k i p h in
      let c = paths-length doc h.kind 0 r inner in
      let e = b.0 in
      let y = after (m - length (record_paths doc h.kind 0 r inner)) b.1 in
      let z : n + 1 + size inner + (m - length (record_paths doc h.kind 0 r inner)) ≡ n + suc m = omega (arith, c, e) in
      record {
        hop = y.hop;
        hs = y.hs;
        u = y.u;
        g = y.g;
        path = y.path;
        first = side-later (eqb k 10) i h inner later y.hop y.u y.first;
        leads = y.leads;
        stands = subst (λ (v : ℕ). StandsFor form doc w v y.g) z y.stands;
      }

  -- Each path among those of some records leads to the tag of the record at its place.
  find : (d : ℕ) (l : Bool) (f : Forest) → Fair d l f → (n : ℕ) → Sits w n f → (k i : ℕ) (p : List Hop) (m : ℕ) (q : List Hop)
      → PathAt (record_paths doc k i p f) m q → Found (eqb k 10) i n m p q f
  unfolding record_paths hop_of Leads
  find d l none fr n s k i p m q a = absurd a
  find d l (node h inner later) fr n s k i p zero q a =
      let z : n ≡ n + 0 = omega arith in
      let here : StandsFor form doc w n (tag_of h inner) = record { head = h; inner = inner; words_are = sits-first w n h inner later s; value = refl } in
      record {
        hop = hop_of k i (part doc h.name h.name_length);
        hs = [];
        u = tag_of h inner;
        g = tag_of h inner;
        path = sym a;
        first = side-first (eqb k 10) i h inner later;
        leads = refl;
        stands = subst (λ (x : ℕ). StandsFor form doc w x (tag_of h inner)) z here;
      }
  find d l (node h inner later) fr n s k i p (suc m) q a =
      step d l h inner later fr n s k i p m q
      (λ r b. find d (eqb h.kind 9) inner (fair-inner d l h inner later fr) (n + 1) (sits-inner w n h inner later s) h.kind 0 r m q b)
      (λ m' b. find d l later (fair-later d l h inner later fr) (n + 1 + size inner) (sits-later w n h inner later s) k (suc i) p m' q b)
      (path-split (paths_in k i p h inner) (record_paths doc k (suc i) p later) m q a)

-- The paths of a table's document are the root's and those of the records in it.
pub table-paths : (form : Form) (doc w : List ℕ) (t : IsTable (length doc) w) → paths (table_value form doc w t) ≡ [] ∷ record_paths doc 10 0 [] t.inner
table-paths form doc w t =
    let inner-fair = fair-inner (length doc) false t.head t.inner none t.fair in
    tree-paths form doc (length doc) t.head t.inner (subst (λ (k : ℕ). Fair (length doc) (eqb k 9) t.inner) t.compound inner-fair)

pub numbered : (form : Form) → IsNumbered form
unfolding Leads value_by
numbered form doc w t n p a = go n (subst (λ (ps : List (List Hop)). PathAt ps n p) (table-paths form doc w t) a)
  where
    root : Tag
    root = compound (entries_of form doc t.inner)

    sits : Sits w 0 (node t.head t.inner none)
    sits = table-sits (length doc) w t

    inner-fair : Fair (length doc) (eqb t.head.kind 9) t.inner
    inner-fair = fair-inner (length doc) false t.head t.inner none t.fair

    root-value : value_by form doc t.head (tags_of form doc t.inner) (entries_of form doc t.inner) ≡ root
    root-value = rw t.compound refl

    go : (n : ℕ) → PathAt ([] ∷ record_paths doc 10 0 [] t.inner) n p → (g : Tag) × Leads p root g × StandsFor form doc w n g
    go zero b = (
      root,
      subst (λ (q : List Hop). Leads q root root) b refl,
      record { head = t.head; inner = t.inner; words_are = sits-first w 0 t.head t.inner none sits; value = root-value },
    )
    go (suc m) b =
        let f = find form doc w (length doc) (eqb t.head.kind 9) t.inner inner-fair 1 (sits-inner w 0 t.head t.inner none sits) 10 0 [] m p b in
        let s = f.first in
        let by_name : p ≡ named s.0 ∷ f.hs = f.path ∙ ap (λ (x : Hop). x ∷ f.hs) s.1 in
        let z : 1 + m ≡ suc m = omega arith in (
          f.g,
          subst (λ (q : List Hop). Leads q root f.g) (sym by_name) (entries_of form doc t.inner, f.u, refl, s.2, f.leads),
          subst (λ (v : ℕ). StandsFor form doc w v f.g) z f.stands,
        )
