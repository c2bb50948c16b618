-- Laws of records in cells, which are the links of a stretch of records.
-- Assumes nothing.
use Prim.Native.Nat.{ℕ, ◌+◌, ◌-◌, ◌*◌, ◌/◌, ◌%◌, ◌≤◌, ◌<◌}
use mathlib.Core.List.{List}
use mathlib.Core.Path.{◌≡◌, sym, ap, subst, ◌∙◌}
use mathlib.Core.Logic.{◌⊎◌, inl, inr, ⊎_elim}
use native.Mathlib.Omega.{arith}
use native.Mathlib.Nat.{mod-lt}
use lib.ListN.{length, get_or}
use Rattle.nbt_siblings.specs.declared.cells.Placed.{Placed}
use Rattle.nbt_siblings.specs.Names.{name_of, end_of}
use Rattle.nbt_siblings.specs.Links.{num, link, linked, Agree, Fit}
use Rattle.nbt_siblings.specs.Cells.{mark_of, mark_at, home_of, Blank, Cells, Passed, Open, Met, Put, PlacedBy, FromOn, Ready}
use Rattle.nbt_siblings.proofs.Cases.{same_by, less_by}
use Rattle.nbt_siblings.proofs.Numbers.{names_same}
use Rattle.nbt_siblings.proofs.Tables.{agree-self, agree_trans, agree-name, agree-fit, linked-agree, linked-same, linked-other}
use Rattle.nbt_siblings.proofs.Rows.{Beside, Repeats}
use Rattle.nbt_siblings.proofs.Places.{family-low, Place, place-start, place_here, place-fit, place-on, place-by, place-next, place-later}

-- ---- a cell sought

pub passed_start : (doc t : List ℕ) (i from : ℕ) → Passed doc t i from from
unfolding Passed
passed_start doc t i from j a b = absurd (omega arith)

module _ (doc t : List ℕ) (i from k : ℕ) {r : ℕ} (e : r ≡ link t k) (full : r ≡ 0 → ⊥) where
  pub passed-next : Passed doc t i from k → (num (name_of doc t r) ≡ num (name_of doc t i) → ⊥) → Passed doc t i from (k + 1)
  unfolding Passed
  passed-next p other j a b =
      same_by j k
      (λ q. subst (λ y. (y ≡ 0 → ⊥) × (num (name_of doc t y) ≡ num (name_of doc t i) → ⊥)) (e ∙ ap (link t) (sym q)) (full, other))
      (λ n. p j a (omega (arith, b, n)))

  pub cells-met : {to : ℕ} → from ≤ k → k < to → num (name_of doc t r) ≡ num (name_of doc t i) → Met doc t i from to
  cells-met a b q = record { k = k; low = a; high = b; full = λ z. full (e ∙ z); twins = ap (λ y. num (name_of doc t y)) (sym e) ∙ q }

module _ (doc t : List ℕ) (from to : ℕ) (cs : Cells doc t from to) (k : ℕ) (a : from ≤ k) (b : k < to) where
  pub cells-room : 9 * k + 9 ≤ length t
  unfolding Cells
  cells-room = (cs k a b).0

  pub cells_fit : {r : ℕ} → r ≡ link t k → (r ≡ 0 → ⊥) → Fit doc t r
  unfolding Cells
  cells_fit e n = subst (λ z. Fit doc t z) (sym e) ((cs k a b).1 (λ q. n (e ∙ q)))

-- ---- the cells of a mark

pub home_below : (first last m : ℕ) → first < last → home_of first last m < last
home_below first last m w = omega (arith, mod-lt (m / 2) {m = last - first - (last - first) / 8} (omega arith))

module _ (doc t : List ℕ) (i first last : ℕ) {m from to : ℕ} (e : m ≡ mark_at doc t i) (g : from ≡ home_of first last m) (w : to ≤ last) where
  pub place-cells : Cells doc t first last → Cells doc t from to
  unfolding Cells
  place-cells cs k a b = cs k (omega (arith, a, g)) (omega (arith, b, w))

  pub place-put : {k : ℕ} {t' : List ℕ} → Open doc t i from to k → t' ≡ linked t k i → Put doc t t' i first last
  place-put {k = k} o q = record {
    k = k;
    spot = subst (λ x. Open doc t i x last k) (g ∙ ap (home_of first last) e)
        (record { low = o.low; high = omega (arith, o.high, w); empty = o.empty; passed = o.passed });
    is = q;
  }

  pub place-met : Met doc t i from to → Met doc t i first last
  place-met h = record { k = h.k; low = omega (arith, h.low, g); high = omega (arith, h.high, w); full = h.full; twins = h.twins }

pub frame_same : {t₀ t t' : List ℕ} {U : ℕ → Type 0} → Agree t₀ t U → t' ≡ t → Agree t₀ t' U
frame_same g e = rw e g

-- ---- records put in cells

-- a record stands in a cell, and none before it from its first on is free
pub record Stored (t : List ℕ) (from last z : ℕ) : Type 0 where
  pub k : ℕ
  pub low : from ≤ k
  pub high : k < last
  pub is : link t k ≡ z
  pub filled : (j : ℕ) → from ≤ j → j ≤ k → link t j ≡ 0 → ⊥

-- how far the records of a class have come: those before i stand in cells
pub record Filled (doc t₀ : List ℕ) (first stop last class : ℕ) (t : List ℕ) (i : ℕ) : Type 0 where
  pub place : Place t₀ first stop i
  pub frame : Agree t₀ t (λ z. (first ≤ z) × (z < last))
  pub held : (k : ℕ) → first ≤ k → k < last → (link t k ≡ 0 → ⊥) → Beside t₀ first stop (link t k) × (link t k < i)
  pub stored : (z : ℕ) → Beside t₀ first stop z → z < i → mark_at doc t₀ z % 2 ≡ class → Stored t (home_of first last (mark_at doc t₀ z)) last z
  pub none : FromOn doc t₀ first stop class i

pub filled_at : {doc t₀ : List ℕ} {first stop last class : ℕ} {t : List ℕ} {i j : ℕ} → Filled doc t₀ first stop last class t i → j ≡ i
    → Filled doc t₀ first stop last class t j
filled_at f e = rw e f

module _ {doc t₀ : List ℕ} {first stop last : ℕ} (r : Ready doc t₀ first stop last) where
  pub filled-start : (class : ℕ) → Blank t₀ first last → Filled doc t₀ first stop last class t₀ first
  unfolding Blank FromOn
  filled-start class b = record {
    place = place-start t₀ first stop;
    frame = agree-self t₀ (λ z. (first ≤ z) × (z < last));
    held = λ k l h n. absurd (n (b k l h));
    stored = λ z m l e. absurd (omega (arith, l, family-low r.family z m));
    none = λ z a e. family-low r.family z a.here;
  }

  module _ {class : ℕ} {t : List ℕ} {i : ℕ} (f : Filled doc t₀ first stop last class t i) where
    pub filled-end : stop ≤ i → FromOn doc t₀ first stop class stop
    unfolding FromOn
    filled-end h z a e = omega (arith, h, f.none z a e)

    name-same : (z : ℕ) → name_of doc t z ≡ name_of doc t₀ z
    name-same z = agree-name f.frame doc z

    pub filled-cells : Cells doc t first last
    unfolding Cells
    filled-cells k a b = (
      omega (arith, r.room, f.frame.len, b),
      λ n. agree-fit f.frame doc (link t k) (r.family.fit (link t k) (f.held k a b n).0),
    )

    module _ (h : i < stop) where
      here : Beside t₀ first stop i
      here = place_here r.family f.place h

      pub filled_on : i < end_of t₀ i
      filled_on = place-on r.family f.place h

      pub filled-fit : Fit doc t i
      filled-fit = agree-fit f.frame doc i (place-fit r.family f.place h)

      pub filled-twin : Met doc t i first last → Repeats doc t₀ first stop i
      filled-twin m =
          let other = f.held m.k m.low m.high m.full in
          record {
            here = here;
            w = link t m.k;
            there = other.0;
            earlier = other.1;
            twins = ap num (sym (name-same (link t m.k))) ∙ m.twins ∙ ap num (name-same i);
          }

      next-none : (Repeats doc t₀ first stop i → mark_at doc t₀ i % 2 ≡ class → ⊥) → FromOn doc t₀ first stop class (end_of t₀ i)
      unfolding FromOn
      next-none n z a e =
          place-later r.family f.place h (λ w. Repeats doc t₀ first stop w × (mark_at doc t₀ w % 2 ≡ class))
          (λ w q. f.none w q.0 q.1) (λ q. n q.0 q.1) z a.here (a, e)

      -- those of the class before the next record stand in cells of t' where those before i do, and i does if it is of the class
      next-stored : (t' : List ℕ) → ((z : ℕ) → Stored t (home_of first last (mark_at doc t₀ z)) last z → Stored t' (home_of first last (mark_at doc t₀ z)) last z)
          → (mark_at doc t₀ i % 2 ≡ class → Stored t' (home_of first last (mark_at doc t₀ i)) last i)
          → (z : ℕ) → Beside t₀ first stop z → z < end_of t₀ i → mark_at doc t₀ z % 2 ≡ class → Stored t' (home_of first last (mark_at doc t₀ z)) last z
      next-stored t' keep new z m l e =
          place-by r.family f.place h (Stored t' (home_of first last (mark_at doc t₀ z)) last z) z m (λ b. keep z (f.stored z m b e))
          (λ q. subst (λ y. mark_at doc t₀ y % 2 ≡ class → Stored t' (home_of first last (mark_at doc t₀ y)) last y) (sym q) new e) (λ b. absurd (omega (arith, b, l)))

      -- a record of the other class
      skipped : (mark_at doc t i % 2 ≡ class → ⊥) → Filled doc t₀ first stop last class t (end_of t₀ i)
      skipped n = record {
        place = place-next r.family f.place h;
        frame = f.frame;
        held = λ k a b e. let u = f.held k a b e in (u.0, omega (arith, u.1, filled_on));
        stored = next-stored t (λ z s. s) (λ e. absurd (no e));
        none = next-none (λ a e. no e);
      }
        where
          no : mark_at doc t₀ i % 2 ≡ class → ⊥
          no e = n (ap (λ w. mark_of w % 2) (name-same i) ∙ e)

      -- a record put in a free cell
      module _ (bytes : (j : ℕ) → get_or doc j 0 < 256) (k : ℕ) (o : Open doc t i (home_of first last (mark_at doc t i)) last k) where
        home_same : home_of first last (mark_at doc t i) ≡ home_of first last (mark_at doc t₀ i)
        home_same = ap (λ w. home_of first last (mark_of w)) (name-same i)

        alone : Repeats doc t₀ first stop i → mark_at doc t₀ i % 2 ≡ class → ⊥
        unfolding Passed
        alone a e =
            let q : name_of doc t₀ a.w ≡ name_of doc t₀ i = names_same bytes (r.family.fit a.w a.there) (r.family.fit i here) a.twins in
            go (f.stored a.w a.there a.earlier (ap (λ w. mark_of w % 2) q ∙ e)) (ap (λ w. home_of first last (mark_of w)) q ∙ sym home_same)
          where
            go : Stored t (home_of first last (mark_at doc t₀ a.w)) last a.w → home_of first last (mark_at doc t₀ a.w) ≡ home_of first last (mark_at doc t i) → ⊥
            go s g =
                less_by s.k k
                (λ l. (o.passed s.k (omega (arith, g, s.low)) l).1
                (ap (λ y. num (name_of doc t y)) s.is ∙ ap num (name-same a.w) ∙ a.twins ∙ sym (ap num (name-same i))))
                (λ l. s.filled k (omega (arith, g, o.low)) l o.empty)

        room : 9 * k + 9 ≤ length t
        room = omega (arith, r.room, f.frame.len, o.high)

        full : (j : ℕ) → (j ≡ k) ⊎ (link t j ≡ 0 → ⊥) → link (linked t k i) j ≡ 0 → ⊥
        full j c e =
            same_by j k
            (λ q. let zero = sym (linked-same t k i room) ∙ subst (λ y. link (linked t k i) y ≡ 0) q e in
            omega (arith, zero, r.some, family-low r.family i here))
            (λ n. ⊎_elim n (λ some. some (sym (linked-other t k i j n) ∙ e)) c)

        put : Filled doc t₀ first stop last class (linked t k i) (end_of t₀ i)
        unfolding Passed
        put = record {
          place = place-next r.family f.place h;
          frame = agree_trans f.frame (linked-agree t k i) (λ z m. m) (λ z m. (omega (arith, m, o.low), omega (arith, m, o.high)));
          held = held;
          stored = next-stored (linked t k i) keep (λ e. new);
          none = next-none alone;
        }
          where
            held : (j : ℕ) → first ≤ j → j < last → (link (linked t k i) j ≡ 0 → ⊥) → Beside t₀ first stop (link (linked t k i) j) × (link (linked t k i) j < end_of t₀ i)
            held j a b n =
                same_by j k
                (λ q. subst (λ y. Beside t₀ first stop (link (linked t k i) y) × (link (linked t k i) y < end_of t₀ i)) (sym q)
                (rw (linked-same t k i room) (here, filled_on)))
                (λ u. let q = linked-other t k i j u in let v = f.held j a b (λ w. n (q ∙ w)) in rw q (v.0, omega (arith, v.1, filled_on)))

            keep : (z : ℕ) → Stored t (home_of first last (mark_at doc t₀ z)) last z → Stored (linked t k i) (home_of first last (mark_at doc t₀ z)) last z
            keep z s = record {
              k = s.k;
              low = s.low;
              high = s.high;
              is = linked-other t k i s.k (λ q. s.filled s.k s.low (omega arith) (ap (link t) q ∙ o.empty)) ∙ s.is;
              filled = λ j a b. full j (inr (s.filled j a b));
            }

            new : Stored (linked t k i) (home_of first last (mark_at doc t₀ i)) last i
            new = record {
              k = k;
              low = omega (arith, o.low, home_same);
              high = o.high;
              is = linked-same t k i room;
              filled = λ j a b. full j (same_by j k (λ q. inl q) (λ n. inr (o.passed j (omega (arith, a, home_same)) (omega (arith, b, n))).0));
            }

      -- what `place` did, with the table as the code has it
      pub filled_next : ((j : ℕ) → get_or doc j 0 < 256) → (t' : List ℕ) (used : ℕ) → PlacedBy doc t t' i first last class (Placed.On used)
          → Filled doc t₀ first stop last class t' (end_of t₀ i)
      filled_next bytes t' used p = ⊎_elim (λ a. rw a.0 (skipped a.1)) (λ b. rw b.1.is (put bytes b.1.k b.1.spot)) p
