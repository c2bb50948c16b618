-- Laws of the last pass: each record of a sorted list is compared with the next, and the links are undone.
-- Assumes nothing.
use Prim.Native.Nat.{ℕ, ◌-◌, ◌≤◌, ◌<◌}
use mathlib.Core.Bool.{true}
use mathlib.Core.List.{List, ◌∷◌}
use mathlib.Core.Path.{◌≡◌, refl, sym, ap, subst, ◌∙◌}
use mathlib.Core.Logic.{◌⊎◌, inl, inr, ⊎_elim}
use native.Mathlib.Omega.{arith}
use Rattle.nbt_siblings.specs.Names.{name_of}
use Rattle.nbt_siblings.specs.Links.{num, rank, link, linked, Mem, walk, Sorted, Agree, Fit}
use Rattle.nbt_siblings.specs.Lists.{Lowered, Chained, Again, Unlinked}
use Rattle.nbt_siblings.proofs.Walks.{walk_none, walk-cons, walk_first, walk-later, walk-cases, mem-none}
use Rattle.nbt_siblings.proofs.Tables.{Listed, agree-self, agree_trans, agree-name, agree-fit, agree-back, agree_same, linked-agree, linked-walk}
use Rattle.nbt_siblings.proofs.Merges.{sorted_head, sorted_tail, sorted-once}

-- the order by name and number
sooner : (doc t : List ℕ) (x y : ℕ) → x < y → num (name_of doc t x) ≡ num (name_of doc t y) → rank doc t x < rank doc t y
unfolding rank
sooner doc t x y h e = omega arith

between : (doc t : List ℕ) (w x y : ℕ) → w < 4294967296 → x < 4294967296 → y < 4294967296 → rank doc t w < rank doc t x → rank doc t x < rank doc t y
    → num (name_of doc t w) ≡ num (name_of doc t y) → num (name_of doc t x) ≡ num (name_of doc t y)
unfolding rank
between doc t w x y sw sx sy a b e = omega arith

earlier : (doc t : List ℕ) (x y : ℕ) → rank doc t x < rank doc t y → num (name_of doc t x) ≡ num (name_of doc t y) → x < y
unfolding rank
earlier doc t x y h e = omega arith

-- a sorted walk: its first is less than the later ones, which are sorted too, and is none of them
module _ (key f : ℕ → ℕ) (a n : ℕ) (s : Sorted true key (walk f a n)) (h : 0 < n) where
  split : Sorted true key (a ∷ walk f (f a) (n - 1))
  split = rw (walk-cons f a n h) at s

  less : (z : ℕ) → Mem z (walk f (f a) (n - 1)) → key a < key z
  less = sorted_head true key a (walk f (f a) (n - 1)) split

  tail : Sorted true key (walk f (f a) (n - 1))
  tail = sorted_tail true key a (walk f (f a) (n - 1)) split

  once : Mem a (walk f (f a) (n - 1)) → ⊥
  once = sorted-once true key a (walk f (f a) (n - 1)) split

-- a record is on the list, and an earlier one has its name
abbrev Doubled : List ℕ → List ℕ → ℕ → ℕ → ℕ → Type 0
Doubled doc t head n z = Again doc t (λ w. Listed t head n w) z

-- how far the pass has come: the records from x on are left, and those before x are undone
pub record Scan (doc t₀ : List ℕ) (head n none : ℕ) (t : List ℕ) (x left low : ℕ) : Type 0 where
  pub some : 0 < left
  pub sorted : Sorted true (rank doc t₀) (walk (link t) x left)
  pub parts : (z : ℕ) → Listed t₀ head n z → Listed t x left z ⊎ (rank doc t₀ z < rank doc t₀ x)
  pub sub : (z : ℕ) → Listed t x left z → Listed t₀ head n z
  pub clean : (t₁ : List ℕ) → Agree t₁ t₀ (λ z. Listed t₀ head n z) → ((z : ℕ) → Listed t₀ head n z → link t₁ z ≡ 0)
      → Agree t₁ t (λ z. Listed t x left z)
  pub frame : Agree t₀ t (λ z. Listed t₀ head n z)
  pub low_is : (low ≡ none) ⊎ Doubled doc t₀ head n low
  pub least : (z : ℕ) → Doubled doc t₀ head n z → (Listed t x left z × (z ≡ x → ⊥)) ⊎ (low ≤ z)

module _ {doc t₀ : List ℕ} {head n none : ℕ} (ch : Chained doc t₀ head n none) where
  -- the first has no earlier twin
  first : Doubled doc t₀ head n head → ⊥
  first a =
      walk-cases ⊥ (link t₀) head n a.w ch.some (λ e. omega (arith, e, a.earlier))
      (λ m. omega (arith, less (rank doc t₀) (link t₀) head n ch.sorted ch.some a.w m, sooner doc t₀ a.w head a.earlier a.twins)) a.there

  pub scan-start : Scan doc t₀ head n none t₀ head n none
  scan-start = record {
    some = ch.some;
    sorted = ch.sorted;
    parts = λ z m. inl m;
    sub = λ z m. m;
    clean = λ t₁ g e. g;
    frame = agree-self t₀ (λ z. Listed t₀ head n z);
    low_is = inl refl;
    least = λ z a. inl (a.here, λ e. first (subst (λ w. Doubled doc t₀ head n w) e a));
  }

  module _ {t : List ℕ} {x left low : ℕ} (s : Scan doc t₀ head n none t x left low) where
    here : Listed t₀ head n x
    here = s.sub x (walk_first (link t) x left s.some)

    pub scan-here : Fit doc t x
    scan-here = agree-fit s.frame doc x (ch.fit x here)

    rest_sorted : Sorted true (rank doc t₀) (walk (link t) (link t x) (left - 1))
    rest_sorted = tail (rank doc t₀) (link t) x left s.sorted s.some

    rest : walk (link (linked t x 0)) (link t x) (left - 1) ≡ walk (link t) (link t x) (left - 1)
    rest = linked-walk t x 0 (link t x) (left - 1) (once (rank doc t₀) (link t) x left s.sorted s.some)

    cut : Agree t₀ (linked t x 0) (λ z. Listed t₀ head n z)
    cut = agree_trans s.frame (linked-agree t x 0) (λ z m. m) (λ z e. subst (λ w. Listed t₀ head n w) (sym e) here)

    undone : (X : ℕ → Type 0) → ((z : ℕ) → Listed t x left z → (z ≡ x) ⊎ X z)
        → (t₁ : List ℕ) → Agree t₁ t₀ (λ z. Listed t₀ head n z) → ((z : ℕ) → Listed t₀ head n z → link t₁ z ≡ 0) → Agree t₁ (linked t x 0) X
    undone X h t₁ g e = agree-back x 0 (s.clean t₁ g e) h (e x here) (omega (arith, (ch.fit x here).room, g.len))

    -- the last
    scan-end : left ≤ 1 → Unlinked doc t₀ (linked t x 0) head n none low
    scan-end h = record {
      clean = λ t₁ g e. agree_same (undone (λ z. ⊥) (λ z m. inl (only z m)) t₁ g e) (λ z b. absurd b);
      low_is = record { is = s.low_is; least = λ z a. ⊎_elim (λ m. absurd (m.1 (only z m.0))) (λ l. l) (s.least z a) };
    }
      where
        only : (z : ℕ) → Listed t x left z → z ≡ x
        only z m =
            walk-cases (z ≡ x) (link t) x left z s.some (λ e. e)
            (λ k. absurd (mem-none z (rw (walk_none (link t) (link t x) (left - 1) (omega arith)) at k))) m

    -- and one with another after it
    module _ (h : 1 < left) where
      second : Listed t (link t x) (left - 1) (link t x)
      second = walk_first (link t) (link t x) (left - 1) (omega arith)

      second-in : Listed t₀ head n (link t x)
      second-in = s.sub (link t x) (walk-later (link t) x left (link t x) s.some second)

      step : rank doc t₀ x < rank doc t₀ (link t x)
      step = less (rank doc t₀) (link t) x left s.sorted s.some (link t x) second

      scan-twins : Doubled doc t₀ head n (link t x) → num (name_of doc t₀ x) ≡ num (name_of doc t₀ (link t x))
      scan-twins a =
          ⊎_elim
          (λ m. walk-cases (num (name_of doc t₀ x) ≡ num (name_of doc t₀ (link t x))) (link t) x left a.w s.some
          (λ e. ap (λ k. num (name_of doc t₀ k)) (sym e) ∙ a.twins)
          (λ k. walk-cases (num (name_of doc t₀ x) ≡ num (name_of doc t₀ (link t x))) (link t) (link t x) (left - 1) a.w (omega arith)
          (λ e. absurd (omega (arith, e, a.earlier)))
          (λ j. absurd (omega (
            arith,
            sooner doc t₀ a.w (link t x) a.earlier a.twins,
            less (rank doc t₀) (link t) (link t x) (left - 1) rest_sorted (omega arith) a.w j,
          ))) k) m)
          (λ b. between doc t₀ a.w x (link t x) (ch.fit a.w a.there).small (ch.fit x here).small (ch.fit (link t x) second-in).small b step a.twins)
          (s.parts a.w a.there)

      name-same : (z : ℕ) → num (name_of doc (linked t x 0) z) ≡ num (name_of doc t₀ z)
      name-same z = ap num (agree-name cut doc z)

      back : (z : ℕ) → Listed (linked t x 0) (link t x) (left - 1) z → Listed t x left z
      back z m = walk-later (link t) x left z s.some (subst (λ w. Mem z w) rest m)

      forth : (z : ℕ) → Listed t x left z → (z ≡ x) ⊎ Listed (linked t x 0) (link t x) (left - 1) z
      forth z m =
          walk-cases ((z ≡ x) ⊎ Listed (linked t x 0) (link t x) (left - 1) z) (link t) x left z s.some (λ e. inl e)
          (λ k. inr (subst (λ w. Mem z w) (sym rest) k)) m

      scan-next : (low' : ℕ) → Lowered (num (name_of doc (linked t x 0) x)) (num (name_of doc (linked t x 0) (link t x))) (link t x) low low'
          → Scan doc t₀ head n none (linked t x 0) (link t x) (left - 1) low'
      scan-next low' l = record {
        some = omega arith;
        sorted = rw rest rest_sorted;
        parts = λ z m. ⊎_elim
            (λ k. ⊎_elim (λ e. inr (subst (λ w. rank doc t₀ w < rank doc t₀ (link t x)) (sym e) step)) (λ j. inl j) (forth z k))
            (λ b. inr (omega (arith, b, step))) (s.parts z m);
        sub = λ z m. s.sub z (back z m);
        clean = undone (λ z. Listed (linked t x 0) (link t x) (left - 1) z) forth;
        frame = cut;
        low_is = ⊎_elim (λ e. subst (λ k. (k ≡ none) ⊎ Doubled doc t₀ head n k) (sym e) s.low_is)
            (λ e. inr (subst (λ k. Doubled doc t₀ head n k) (sym e.0) (twin (sym (name-same x) ∙ e.1 ∙ name-same (link t x))))) l.is;
        least = λ z a. ⊎_elim
            (λ m. ⊎_elim (λ e. absurd (m.1 e)) (λ k. walk-cases ((Listed (linked t x 0) (link t x) (left - 1) z × (z ≡ link t x → ⊥)) ⊎ (low' ≤ z))
            (link (linked t x 0)) (link t x) (left - 1) z (omega arith)
            (λ e. inr (omega (arith, e, l.twin (name-same x ∙ scan-twins (subst (λ w. Doubled doc t₀ head n w) e a) ∙ sym (name-same (link t x))))))
            (λ j. inl (k, λ e. later z j e)) k) (forth z m.0))
            (λ b. inr (omega (arith, b, l.le))) (s.least z a);
      }
        where
          twin : num (name_of doc t₀ x) ≡ num (name_of doc t₀ (link t x)) → Doubled doc t₀ head n (link t x)
          twin e = record { here = second-in; w = x; there = here; earlier = earlier doc t₀ x (link t x) step e; twins = e }

          later : (z : ℕ) → Listed (linked t x 0) (link (linked t x 0) (link t x)) (left - 1 - 1) z → z ≡ link t x → ⊥
          later z j e =
              once (rank doc t₀) (link (linked t x 0)) (link t x) (left - 1) (subst (λ w. Sorted true (rank doc t₀) w) (sym rest) rest_sorted) (omega arith)
              (subst (λ k. Listed (linked t x 0) (link (linked t x 0) (link t x)) (left - 1 - 1) k) e j)

      -- the same, with the table and the next record as the code has them
      pub scan-fits : {t' : List ℕ} {y : ℕ} → y ≡ link t x → t' ≡ linked t x 0 → Fit doc t' x × Fit doc t' y
      scan-fits e g = rw (e, g) (agree-fit cut doc x (ch.fit x here), agree-fit cut doc (link t x) (ch.fit (link t x) second-in))

      pub scan-on : {t' : List ℕ} {y low' : ℕ} → y ≡ link t x → t' ≡ linked t x 0
          → Lowered (num (name_of doc t' x)) (num (name_of doc t' y)) y low low' → Scan doc t₀ head n none t' y (left - 1) low'
      scan-on e g l = rw (e, g) (scan-next _ (rw (e, g) at l))

    pub scan-last : {t' : List ℕ} → t' ≡ linked t x 0 → left ≤ 1 → Unlinked doc t₀ t' head n none low
    scan-last g h = rw g (scan-end h)
