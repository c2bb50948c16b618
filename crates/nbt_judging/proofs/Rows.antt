-- Records that stand in a table, fair: the first of them, those in it and those after it, and what each is.
-- Assumes nothing.
use Prim.Native.Nat.{ℕ, ◌+◌, ◌*◌, ◌≤◌, ◌<◌}
use mathlib.Core.Bool.{Bool, true, false}
use mathlib.Core.Logic.{◌⊎◌, inl, inr}
use mathlib.Core.List.{List}
use mathlib.Core.Path.{◌≡◌, refl, sym, ap, ◌∙◌}
use native.Mathlib.Omega.{arith}
use lib.ListN.{length, take, drop}
use lib.Seq.{take-append_seam}
use lib.Dec.{eqb}
use Rattle.form.specs.Spans.{part, over}
use Rattle.form.specs.Table.{Head, Forest, none, node, size, ◌⊕◌, word, flat, wrote, holds, head_of}
use Rattle.form.specs.Tables.{Fair, LeafIs, ContainerIs, Within, leaf_fits}
use Rattle.form.specs.Records.{Stands}
use Rattle.form.proofs.Table.{flat-length, append-none, append-append}
use Rattle.form.proofs.Tables.{head-of, under-alone, under-later, under-inner, sits-first, sits-inner, sits-later, sits-alone, sits-words, fair-name, fair-first, fair-inner, fair-later, fair-alone}
use Rattle.form.proofs.Leaves.{fits-held}
use Rattle.form.proofs.Places.{over-part}
use Rattle.nbt_siblings.specs.Holding.{NamesIn, Holds}
use Rattle.nbt_siblings.specs.Forests.{spare, Free, repeat_in}
use Rattle.nbt_siblings.specs.Names.{first_repeat}
use Rattle.nbt_siblings.specs.Lists.{Family}
use Rattle.nbt_siblings.proofs.Forests.{family-of, repeat-of}
use Rattle.nbt_judging.specs.Steps.{Placed, Rows, One}

-- ---- the first of some records

-- The first of some records, with those in it and those after it.
pub record Here (doc t : List ℕ) (l : Bool) (n end : ℕ) (f : Forest) : Type 0 where
  pub head : Head
  pub inner : Forest
  pub later : Forest
  pub is : f ≡ node head inner later
  pub ends : word t n 7 ≡ n + 1 + size inner
  pub one : Rows doc t l n (n + 1 + size inner) (node head inner none)
  pub rest : Rows doc t l (n + 1 + size inner) end later
  pub on : n + 1 + size inner ≤ end

-- The first with those in it, and those after it.
pub rows_split : (doc t : List ℕ) (l : Bool) (n end : ℕ) (h : Head) (inner later : Forest) → Rows doc t l n end (node h inner later)
    → Rows doc t l n (n + 1 + size inner) (node h inner none) × Rows doc t l (n + 1 + size inner) end later × (n + 1 + size inner ≤ end)
unfolding size
rows_split doc t l n end h inner later r =
    let e = r.to in
    let b = r.fits in
    let p = r.parent in
    let one : Rows doc t l n (n + 1 + size inner) (node h inner none) = record {
      sits = sits-alone t n h inner later r.sits;
      parent = p;
      under = under-alone t p n h inner later r.under;
      fair = fair-alone (length doc) l h inner later r.fair;
      to = omega arith;
      fits = omega arith;
    } in
    let rest : Rows doc t l (n + 1 + size inner) end later = record {
      sits = sits-later t n h inner later r.sits;
      parent = p;
      under = under-later t p n h inner later r.under;
      fair = fair-later (length doc) l h inner later r.fair;
      to = omega arith;
      fits = b;
    } in
    (one, rest, omega arith)

-- Where some are left, there is a first.
pub rows-here : (doc t : List ℕ) (l : Bool) (n end : ℕ) (f : Forest) → Rows doc t l n end f → n < end → Here doc t l n end f
unfolding size
rows-here doc t l n end none r h = absurd (omega (arith, r.to))
rows-here doc t l n end (node g inner later) r h =
    let s = rows_split doc t l n end g inner later r in
    record { head = g; inner = inner; later = later; is = refl; ends = (sits-first t n g inner later r.sits).end; one = s.0; rest = s.1; on = s.2 }

-- Where none are left, there are none.
pub rows_none : (doc t : List ℕ) (l : Bool) (n end : ℕ) (f : Forest) → Rows doc t l n end f → end ≤ n → f ≡ none
unfolding size
rows_none doc t l n end none r h = refl
rows_none doc t l n end (node g inner later) r h = absurd (omega (arith, r.to))

-- ---- a walk over records side by side

module _ {doc t : List ℕ} {l : Bool} {i end : ℕ} {f : Forest} (done : Forest) {rest : Forest} (split : f ≡ done ⊕ rest) where
  -- Where none are left, those done are all.
  pub walk-all : Rows doc t l i end rest → end ≤ i → f ≡ done
  walk-all r e = split ∙ ap (λ g. done ⊕ g) (rows_none doc t l i end rest r e) ∙ append-none done

  -- The first of those left comes to those done.
  pub walk_more : (h : Here doc t l i end rest) → f ≡ (done ⊕ node h.head h.inner none) ⊕ h.later
  unfolding ◌⊕◌
  walk_more h = split ∙ ap (λ g. done ⊕ g) h.is ∙ sym (append-append done (node h.head h.inner none) h.later)

-- The table that the code holds may have been lent away: it is the same.
module _ {doc t : List ℕ} {l : Bool} {i end : ℕ} {f : Forest} (h : Here doc t l i end f) {t' : List ℕ} (same : t' ≡ t) {next : ℕ} (e : next ≡ word t' i 7) where
  -- The next record stands right after this one and those in it.
  pub here-next : next ≡ i + 1 + size h.inner
  here-next = e ∙ ap (λ x. word x i 7) same ∙ h.ends

  -- It comes after this one, and no later than the end.
  pub here_on : (i < next) × (next ≤ end)
  here_on = (omega (arith, here-next), omega (arith, here-next, h.on))

  -- Those after this one.
  pub here-rest : Rows doc t l next end h.later
  here-rest = rw here-next h.rest

  -- This one, with those in it.
  abbrev pub here-one : Within (length doc) t → One doc t' l i next
  here-one s = record { small = rw same s; head = h.head; inner = h.inner; rows = rw (same, here-next) h.one }

-- ---- one record

-- A leaf's kind is none of those that hold records.
no-holds : (k s c : ℕ) → leaf_fits k s c ≡ true → holds k ≡ true → ⊥
no-holds k s c e f = let z : true ≡ false = sym e ∙ fits-held k s c f in let y : ◌≡◌ {A = ℕ} 0 1 = cc in omega arith

module _ (doc t : List ℕ) (l : Bool) (n end : ℕ) (h : Head) (inner : Forest) (r : Rows doc t l n end (node h inner none)) where
  -- Its words stand in the table.
  stands : Stands t n h (n + 1 + size inner)
  stands = sits-first t n h inner none r.sits

  -- Its words are its head's.
  pub rows_head : head_of t n ≡ h
  rows_head = head-of t n h (n + 1 + size inner) stands

  -- It ends where the records do.
  pub rows-to : end ≡ n + 1 + size inner
  unfolding size
  rows-to = omega (arith, r.to)

  -- And its last word says so.
  pub rows_end : word t n 7 ≡ end
  rows_end = stands.end ∙ sym rows-to

  -- Its name lies in the document.
  pub rows-name : h.name + h.name_length ≤ length doc
  rows-name = (fair-name (length doc) l h inner none r.fair).within

  -- Its payload too: a container's is empty.
  pub rows-body : h.start + h.size ≤ length doc
  rows-body = go (fair-first (length doc) l h inner none r.fair)
    where
      go : LeafIs (length doc) h inner ⊎ ContainerIs h inner → h.start + h.size ≤ length doc
      go (inl f) = f.body
      go (inr c) = omega (arith, c.start, c.long)

  -- So the code may read its words and its spans.
  pub rows-placed : Placed doc t n
  rows-placed = record {
    room = stands.room;
    name = omega (arith, stands.name, stands.name_length, rows-name);
    body = omega (arith, stands.start, stands.size, rows-body);
  }

  -- The records in it.
  pub rows-inner : Rows doc t (eqb h.kind 9) (n + 1) end inner
  rows-inner = record {
    sits = sits-inner t n h inner none r.sits;
    parent = n;
    under = under-inner t r.parent n h inner none r.under;
    fair = fair-inner (length doc) l h inner none r.fair;
    to = omega (arith, rows-to);
    fits = r.fits;
  }

  -- What holds no records is a leaf.
  leaf : holds h.kind ≡ false → LeafIs (length doc) h inner
  leaf e = go (fair-first (length doc) l h inner none r.fair)
    where
      go : LeafIs (length doc) h inner ⊎ ContainerIs h inner → LeafIs (length doc) h inner
      go (inl f) = f
      go (inr c) = let z : true ≡ false = sym c.kind ∙ e in let y : ◌≡◌ {A = ℕ} 0 1 = cc in absurd (omega arith)

  -- It has none in it.
  pub rows-leaf : holds h.kind ≡ false → inner ≡ none
  rows-leaf e = (leaf e).bare

  -- And its length and its count are as rule 4 has them.
  pub rows-fits : holds h.kind ≡ false → leaf_fits h.kind h.size h.count ≡ true
  rows-fits e = (leaf e).fits

  -- What holds records is a container.
  pub rows-held : holds h.kind ≡ true → ContainerIs h inner
  rows-held e = go (fair-first (length doc) l h inner none r.fair)
    where
      go : LeafIs (length doc) h inner ⊎ ContainerIs h inner → ContainerIs h inner
      go (inl f) = absurd (no-holds h.kind h.size h.count f.fits e)
      go (inr c) = c

-- One record, as the code is given it.
module _ {doc t : List ℕ} {l : Bool} {n end : ℕ} (o : One doc t l n end) where
  -- The code may read its words and its spans.
  pub one_placed : Placed doc t n
  one_placed = rows-placed doc t l n end o.head o.inner o.rows

  -- The place after it is a small number.
  pub one-next : 9 * n + 9 ≤ 27000000
  one-next = omega (arith, one_placed.room, o.small.words)

-- ---- the names of records side by side

-- Names of fair records lie in the document.
names_in_lem : (d : ℕ) (l : Bool) (f : Forest) → Fair d l f → NamesIn d f
unfolding Fair NamesIn
names_in_lem d l none w = tt
names_in_lem d l (node h inner later) w = (w.0.within, names_in_lem d l later w.3)

-- And the words for links are 0.
free_in : (d : ℕ) (l : Bool) (f : Forest) → Fair d l f → Free f
unfolding Fair Free
free_in d l none w = tt
free_in d l (node h inner later) w = (go w.1 (holds h.kind) refl, free_in d l later w.3)
  where
    pick : (b : Bool) → holds h.kind ≡ b → ◌≡◌ {A = ℕ} (elim b [ true ↦ h.start | false ↦ h.list_kind ]) 0 → spare h ≡ 0
    pick b e z = rw (spare, e) z

    go : LeafIs d h inner ⊎ ContainerIs h inner → (b : Bool) → holds h.kind ≡ b → spare h ≡ 0
    go (inl f) true e = absurd (no-holds h.kind h.size h.count f.fits e)
    go (inl f) false e = pick false e f.plain
    go (inr c) true e = pick true e c.start
    go (inr c) false e = let z : true ≡ false = sym c.kind ∙ e in let y : ◌≡◌ {A = ℕ} 0 1 = cc in absurd (omega arith)

module _ (doc t : List ℕ) (l : Bool) (n end : ℕ) (f : Forest) (r : Rows doc t l n end f) where
  -- Where records stand, writing them changes nothing.
  written : t ≡ wrote t r.parent n f
  unfolding wrote
  written =
      let e : part t (9 * n) (length (flat r.parent n f)) ≡ flat r.parent n f =
      ap (take (length (flat r.parent n f))) (sym (sits-words t r.parent n f r.sits r.under)) ∙ take-append_seam (flat r.parent n f) (drop (9 * (n + size f)) t) in
      sym (ap (over t (9 * n)) (sym e) ∙ over-part t (9 * n) (length (flat r.parent n f)) (omega (arith, flat-length r.parent n f, r.to, r.fits)))

  -- So the table holds them.
  abbrev held : Holds (length doc) t n end
  held = record { acc = f; base = t; parent = r.parent; is = written; to = r.to; fits = r.fits; names = names_in_lem (length doc) l f r.fair }

  -- What the search for a repeated name requires.
  pub rows-family : Within (length doc) t → Family doc t n end
  rows-family w = family-of doc t n end held (free_in (length doc) l f r.fair) (omega (arith, r.fits, w.words)) r.fits

  -- And what it answers.
  pub rows-repeat : first_repeat doc t n end ≡ repeat_in doc n none f
  rows-repeat = repeat-of doc t n end held
