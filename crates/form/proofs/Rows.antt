-- Rule 7 record by record, as a check of the words goes about it, and that this says the same as the tree: wherever the words are got from,
-- and of a table's words.
-- Assumes nothing.
use Prim.Native.Nat.{ℕ, zero, suc, ◌+◌, ◌-◌, ◌*◌, ◌≤◌, ◌<◌}
use mathlib.Core.Path.{◌≡◌, refl, sym, ap, subst, ◌∙◌}
use mathlib.Core.Logic.{◌⊎◌, inl, inr, ◌↔◌, ⊎_elim}
use mathlib.Core.List.{List, [], ◌++◌, append-nil}
use mathlib.Core.Bool.{Bool, true, false}
use native.Mathlib.Omega.{arith}
use lib.ListN.{length, drop}
use lib.Seq.{drop-length}
use lib.Dec.{eqb}
use borrow.Author.Tests.{ne_eqb}
use Rattle.form.specs.Answer.{pick}
use Rattle.form.specs.Table.{Head, Forest, none, node, size, width, word, flat}
use Rattle.form.specs.Tables.{first_kind, LeafIs, ContainerIs, Fair, IsTable}
use Rattle.form.specs.Rows.{ChildIs, Chain, stop, hop, LeafRow, list_kind_at, ContainerRow, RowIs, RowsAre}
use Rattle.form.specs.Records.{StandsAt, SitsAt, UnderAt}
use Rattle.form.proofs.Table.{size_none, width-none}
use Rattle.form.proofs.Tables.{sits-words, table-sits, table-under, table-length, fair-none, name-within, fair-node, fair-name, fair-first, fair-inner, fair-later}
use Rattle.form.proofs.Records.{at_none, at-node, at_first, at_inner, at-later, above-none, above-node, above-first}
use Rattle.form.proofs.Records.{above-inner, above-later, among-three, sits-at, at-sits, under-above, above-under}

-- ---- the tests, case by case

module _ (get : ℕ → ℕ → ℕ) (i : ℕ) where
  -- What is no list has the list kind 0.
  pub kind-other : (get i 0 ≡ 9 → ⊥) → 0 ≡ list_kind_at get i
  unfolding list_kind_at
  kind-other h = rw (ne_eqb (get i 0) 9 h) refl

  -- So has an empty list.
  pub kind-empty : get i 0 ≡ 9 → get i 5 ≡ 0 → 0 ≡ list_kind_at get i
  unfolding list_kind_at
  kind-empty h k = rw (h, k) refl

  -- Any other list has the kind of the record after it.
  pub kind-first : get i 0 ≡ 9 → (get i 5 ≡ 0 → ⊥) → get (i + 1) 0 ≡ list_kind_at get i
  unfolding list_kind_at
  kind-first h k = rw (h, ne_eqb (get i 5) 0 k) refl

  -- Past the last record, where words are 0, that is 0.
  pub kind-past : get i 0 ≡ 9 → (get i 5 ≡ 0 → ⊥) → get (i + 1) 0 ≡ 0 → 0 ≡ list_kind_at get i
  kind-past h k z = sym z ∙ kind-first h k

module _ (get : ℕ → ℕ → ℕ) (up l : Bool) (p e : ℕ) where
  -- Children end where their container does at the latest.
  pub chain-le : {j c : ℕ} → Chain get up l p e j c → j ≤ e
  chain-le stop = omega arith
  chain-le (hop child ch) = omega (arith, child.on, child.within)

  -- How many children there are is determined.
  chain-same : {j c : ℕ} → Chain get up l p e j c → {i k : ℕ} → Chain get up l p e i k → i ≡ j → c ≡ k
  chain-same stop stop at = refl
  chain-same stop (hop child ch) at = absurd (omega (arith, child.on, child.within, at))
  chain-same (hop child ch) stop at = absurd (omega (arith, child.on, child.within, at))
  chain-same (hop child ch) (hop child' ch') at = ap suc (chain-same ch ch' (ap (λ n. get n 7) at))

  pub chain-one : {j c : ℕ} → Chain get up l p e j c → {k : ℕ} → Chain get up l p e j k → c ≡ k
  chain-one a b = chain-same a b refl

-- ---- a tree's records are so

-- The kind of the first of some records stands in the first word.
pub first_kind_lem : (get : ℕ → ℕ → ℕ) (m : ℕ) (f : Forest) → SitsAt get m f → first_kind f ≡ pick (eqb (width f) 0) 0 (get m 0)
unfolding first_kind width
first_kind_lem get m none s = refl
first_kind_lem get m (node h inner later) s =
    rw (ne_eqb (1 + width later) 0 (λ e. omega arith)) (sym (at_first get m h inner later s).kind)

-- Records side by side are a chain.
pub chain-of : (d : ℕ) (get : ℕ → ℕ → ℕ) (up l : Bool) (p n : ℕ) (f : Forest) → SitsAt get n f → UnderAt get up p n f → Fair d l f
    → Chain get up l p (n + size f) n (width f)
unfolding size width
chain-of d get up l p n none s u f = let z : n + 0 ≡ n = omega arith in rw z stop
chain-of d get up l p n (node h inner later) s u f =
    let z : n + (1 + size inner + size later) ≡ n + 1 + size inner + size later = omega arith in
    let a = at_first get n h inner later s in
    let e = a.end in
    let m = fair-name d l h inner later f in
    let rest = chain-of d get up l p (n + 1 + size inner) later (at-later get n h inner later s) (above-later get up p n h inner later u) (fair-later d l h inner later f) in
    let child : ChildIs get up l p (n + 1 + size inner + size later) n = record {
      on = omega arith;
      within = omega arith;
      nameless = λ q. (a.name ∙ (m.nameless q).0, a.name_length ∙ (m.nameless q).1);
      parent = above-first get up p n h inner later u;
    } in
    let y : 1 + width later ≡ suc (width later) = omega arith in
    rw (z, y) (hop {j = n} child (subst (λ (x : ℕ). Chain get up l p (n + 1 + size inner + size later) x (width later)) (sym e) rest))

module _ (d : ℕ) (get : ℕ → ℕ → ℕ) (up : Bool) (n i : ℕ) (h : Head) (inner : Forest) (s : StandsAt get i h (i + 1 + size inner)) where
  -- The words of a record that holds none.
  leaf-row : LeafIs d h inner → LeafRow d get i
  leaf-row is =
      let body = is.body in
      record {
        fits = rw (s.kind, s.size, s.count) is.fits;
        body = rw (s.start, s.size) body;
        plain = s.list_kind ∙ is.plain;
        next = s.end ∙ omega (arith, ap size is.bare, size_none);
      }

  -- The words of a list or a compound.
  container-row : SitsAt get (i + 1) inner → UnderAt get up i (i + 1) inner → Fair d (eqb h.kind 9) inner → i + 1 + size inner ≤ n → ContainerIs h inner
      → ContainerRow get up n i
  unfolding list_kind_at
  container-row below under fair le is = record {
    kind = rw s.kind is.kind;
    start = s.start ∙ is.start;
    long = s.size ∙ is.long;
    listed =
        s.list_kind
        ∙ is.listed
        ∙ rw (s.kind, s.count, is.count) (ap (λ (x : ℕ). pick (eqb h.kind 9) x 0) (first_kind_lem get (i + 1) inner below));
    within = rw s.end le;
    tiled = rw (s.kind, s.end, s.count, is.count) (chain-of d get up (eqb h.kind 9) i (i + 1) inner below under fair);
  }

  -- The words of a record of either sort.
  row_of : (l : Bool) (later : Forest) → Fair d l (node h inner later) → SitsAt get (i + 1) inner → UnderAt get up i (i + 1) inner → i + 1 + size inner ≤ n
      → RowIs d get up n i
  row_of l later fair below under le = record {
    name = rw (s.name, s.name_length) (fair-name d l h inner later fair).within;
    rest = ⊎_elim (λ is. inl (leaf-row is)) (λ is. inr (container-row below under (fair-inner d l h inner later fair) le is)) (fair-first d l h inner later fair);
  }

-- Each of some records is so.
rows_of : (d : ℕ) (get : ℕ → ℕ → ℕ) (up : Bool) (to : ℕ) (l : Bool) (p n : ℕ) (f : Forest) → SitsAt get n f → UnderAt get up p n f → Fair d l f → n + size f ≤ to
    → (i : ℕ) → n ≤ i → i < n + size f → RowIs d get up to i
unfolding size
rows_of d get up to l p n none s u f le i lo hi = absurd (omega arith)
rows_of d get up to l p n (node h inner later) s u f le i lo hi =
    let below = at_inner get n h inner later s in
    let under = above-inner get up p n h inner later u in
    ⊎_elim
    (λ e. subst (RowIs d get up to) e (row_of d get up to n h inner (at_first get n h inner later s) l later f below under (omega arith)))
    (⊎_elim
    (λ q. rows_of d get up to (eqb h.kind 9) n (n + 1) inner below under (fair-inner d l h inner later f) (omega arith) i q.0 q.1)
    (λ q. rows_of d get up to l p (n + 1 + size inner) later (at-later get n h inner later s) (above-later get up p n h inner later u) (fair-later d l h inner later f) (omega arith) i q.0 q.1))
    (among-three n i inner later lo hi)

-- A tree of n records, whose words are got.
pub record Grown (d : ℕ) (get : ℕ → ℕ → ℕ) (up : Bool) (n : ℕ) : Type 0 where
  pub head : Head
  pub inner : Forest
  pub compound : head.kind ≡ 10
  pub fair : Fair d false (node head inner none)
  pub sits : SitsAt get 0 (node head inner none)
  pub under : UnderAt get up 0 0 (node head inner none)
  pub sized : 1 + size inner ≡ n

-- Complete: the records of a tree are so.
pub grown-rows : (d : ℕ) (get : ℕ → ℕ → ℕ) (up : Bool) (n : ℕ) → Grown d get up n → RowsAre d get up n
unfolding size
grown-rows d get up n g =
    let s = at_first get 0 g.head g.inner none g.sits in
    let m = g.sized in
    record {
      some = omega arith;
      compound = s.kind ∙ g.compound;
      whole = s.end ∙ omega arith;
      top = above-first get up 0 0 g.head g.inner none g.under;
      each = λ i l. rows_of d get up n false 0 0 (node g.head g.inner none) g.sits g.under g.fair (omega arith) i (omega arith) (omega arith);
    }

-- ---- records that are so are a tree's

-- A record's words but the end and the parent.
abbrev head_at : (ℕ → ℕ → ℕ) → ℕ → Head
head_at get i = record {
  kind = get i 0;
  name = get i 1;
  name_length = get i 2;
  start = get i 3;
  size = get i 4;
  count = get i 5;
  list_kind = get i 6;
}

module _ (d : ℕ) (get : ℕ → ℕ → ℕ) (up : Bool) where
  -- The records that a chain stands for.
  record Built (l : Bool) (p e j c : ℕ) : Type 0 where
    forest : Forest
    sits : SitsAt get j forest
    under : UnderAt get up p j forest
    fair : Fair d l forest
    sized : j + size forest ≡ e
    counted : width forest ≡ c

  -- The records in record j.
  record Inside (j : ℕ) : Type 0 where
    inner : Forest
    sits : SitsAt get (j + 1) inner
    under : UnderAt get up j (j + 1) inner
    fair : Fair d (eqb (get j 0) 9) inner
    ends : get j 7 ≡ j + 1 + size inner
    sort : LeafIs d (head_at get j) inner ⊎ ContainerIs (head_at get j) inner

  -- The record itself stands where it is read.
  stands_here : (j e : ℕ) → get j 7 ≡ e → StandsAt get j (head_at get j) e
  stands_here j e p = record { kind = refl; name = refl; name_length = refl; start = refl; size = refl; count = refl; list_kind = refl; end = p }

  -- What holds no records.
  inside-leaf : (j : ℕ) → LeafRow d get j → Inside j
  inside-leaf j is = record {
    inner = none;
    sits = at_none get (j + 1);
    under = above-none get up j (j + 1);
    fair = fair-none d (eqb (get j 0) 9);
    ends = is.next ∙ omega (arith, size_none);
    sort = inl (record { fits = is.fits; body = is.body; plain = is.plain; bare = refl });
  }

  module _ (n : ℕ) where
    -- A list or a compound.
    inside-container : (j : ℕ) → ContainerRow get up n j → Built (eqb (get j 0) 9) j (get j 7) (j + 1) (get j 5) → Inside j
    unfolding list_kind_at
    inside-container j is b =
        let k : first_kind b.forest ≡ pick (eqb (get j 5) 0) 0 (get (j + 1) 0) =
        first_kind_lem get (j + 1) b.forest b.sits ∙ ap (λ (x : ℕ). pick (eqb x 0) 0 (get (j + 1) 0)) b.counted in
        record {
          inner = b.forest;
          sits = b.sits;
          under = b.under;
          fair = b.fair;
          ends = sym b.sized;
          sort = inr (record {
            kind = is.kind;
            start = is.start;
            long = is.long;
            count = sym b.counted;
            listed = is.listed ∙ ap (λ (x : ℕ). pick (eqb (get j 0) 9) x 0) (sym k);
          });
        }

    -- The records in record j, by its kind.
    inside : (j : ℕ) → RowIs d get up n j → (ContainerRow get up n j → Built (eqb (get j 0) 9) j (get j 7) (j + 1) (get j 5)) → Inside j
    inside j row below = ⊎_elim (inside-leaf j) (λ is. inside-container j is (below is)) row.rest

    -- A child, those in it and those after it.
    built-node : (l : Bool) (m e j c : ℕ) → RowIs d get up n j → ChildIs get up l m e j → Inside j → Built l m e (get j 7) c → Built l m e j (suc c)
    unfolding size width
    built-node l m e j c row child i b =
        let p = i.ends in
        let s = b.sized in
        let h = head_at get j in
        record {
          forest = node h i.inner b.forest;
          sits = at-node get j h i.inner b.forest (stands_here j (j + 1 + size i.inner) p) i.sits (subst (λ (x : ℕ). SitsAt get x b.forest) p b.sits);
          under = above-node get up m j h i.inner b.forest child.parent i.under (subst (λ (x : ℕ). UnderAt get up m x b.forest) p b.under);
          fair = fair-node d l h i.inner b.forest (record { within = row.name; nameless = child.nameless }) i.sort i.fair b.fair;
          sized = omega arith;
          counted = omega (arith, b.counted);
        }

    -- The end of a chain.
    built-none : (l : Bool) (m e : ℕ) → Built l m e e 0
    built-none l m e = record {
      forest = none;
      sits = at_none get e;
      under = above-none get up m e;
      fair = fair-none d l;
      sized = omega (arith, size_none);
      counted = width-none;
    }

    module _ (each : (i : ℕ) → i < n → RowIs d get up n i) where
      -- The records of a chain; the first number is enough where it is not below the records left.
      build : (fuel : ℕ) (l : Bool) (m e : ℕ) → e ≤ n → {j c : ℕ} → Chain get up l m e j c → e - j ≤ fuel → Built l m e j c
      build zero l m e le stop h = built-none l m e
      build zero l m e le (hop {j = j} child ch) h = absurd (omega (arith, child.on, child.within))
      build (suc fuel) l m e le stop h = built-none l m e
      build (suc fuel) l m e le (hop {j = j} {c = c} child ch) h =
          let a = child.on in
          let b = child.within in
          let lt : j < n = omega arith in
          let i : Inside j = inside j (each j lt) (λ is. build fuel (eqb (get j 0) 9) j (get j 7) is.within is.tiled (omega arith)) in
          built-node l m e j c (each j lt) child i (build fuel l m e le ch (omega arith))

-- Sound: records that are so are a tree's.
pub rows_grown : (d : ℕ) (get : ℕ → ℕ → ℕ) (up : Bool) (n : ℕ) → RowsAre d get up n → Grown d get up n
rows_grown d get up n t =
    let row = t.each 0 t.some in
    let i : Inside d get up 0 =
    inside d get up n 0 row (λ is. build d get up n t.each n (eqb (get 0 0) 9) 0 (get 0 7) is.within is.tiled (omega (arith, is.within))) in
    let p = i.ends in
    let h = head_at get 0 in
    record {
      head = h;
      inner = i.inner;
      compound = t.compound;
      fair = fair-node d false h i.inner none (name-within d h row.name) i.sort i.fair (fair-none d false);
      sits = at-node get 0 h i.inner none (stands_here d get up 0 (0 + 1 + size i.inner) p) i.sits (at_none get (0 + 1 + size i.inner));
      under = above-node get up 0 0 h i.inner none t.top i.under (above-none get up 0 (0 + 1 + size i.inner));
      sized = omega (arith, p, t.whole);
    }

-- ---- of a table's words

-- Complete: the records of a table are so.
pub table-rows : (d : ℕ) (w : List ℕ) (n : ℕ) → length w ≡ 9 * n → IsTable d w → RowsAre d (word w) true n
table-rows d w n len t =
    let f : Forest = node t.head t.inner none in
    grown-rows d (word w) true n (record {
      head = t.head;
      inner = t.inner;
      compound = t.compound;
      fair = t.fair;
      sits = sits-at w 0 f (table-sits d w t);
      under = under-above w 0 0 f (table-under d w t);
      sized = omega (arith, table-length d w t);
    })

-- Sound: records that are so are a table's.
pub rows-table : (d : ℕ) (w : List ℕ) (n : ℕ) → length w ≡ 9 * n → RowsAre d (word w) true n → IsTable d w
unfolding size
rows-table d w n len t =
    let g = rows_grown d (word w) true n t in
    let f : Forest = node g.head g.inner none in
    let sized = g.sized in
    let z : 9 * (0 + size f) ≡ length w = omega arith in
    let rest : drop (9 * (0 + size f)) w ≡ [] = rw z (drop-length w) in
    record {
      head = g.head;
      inner = g.inner;
      compound = g.compound;
      fair = g.fair;
      these =
          sym (sym (append-nil (flat 0 0 f))
          ∙ ap (λ (l : List ℕ). flat 0 0 f ++ l) (sym rest)
          ∙ sits-words w 0 0 f (at-sits w 0 f g.sits (omega arith)) (above-under w 0 0 f g.under));
    }

-- Rule 7 record by record says of some words what the tree says of them.
pub rows-iff : (d : ℕ) (w : List ℕ) → IsTable d w ↔ ((n : ℕ) × (length w ≡ 9 * n) × RowsAre d (word w) true n)
rows-iff d w =
    ((λ t. (1 + size t.inner, table-length d w t, table-rows d w (1 + size t.inner) (table-length d w t) t)), λ r. rows-table d w r.0 r.1 r.2)
