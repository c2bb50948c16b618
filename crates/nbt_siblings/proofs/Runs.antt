-- Laws of two linked lists that are merged onto a third.
-- Assumes nothing.
use Prim.Native.Nat.{ℕ, ◌+◌, ◌-◌, ◌≤◌, ◌<◌}
use mathlib.Core.Bool.{Bool, not}
use mathlib.Core.List.{List, ◌∷◌}
use mathlib.Core.Path.{◌≡◌, sym, ap, subst, ◌∙◌}
use mathlib.Core.Logic.{◌⊎◌, inl, inr, ⊎_elim}
use native.Mathlib.Omega.{arith}
use Rattle.nbt_siblings.specs.Links.{rank, link, linked, Mem, walk, Le, Sorted, Agree, Fit}
use Rattle.nbt_siblings.specs.Lists.{Two, Lists}
use Rattle.nbt_siblings.proofs.Cases.{less_by}
use Rattle.nbt_siblings.proofs.Walks.{walk_none, walk-cons, walk_more, walk_first, mem-none}
use Rattle.nbt_siblings.proofs.Tables.{Listed, agree-self, agree_trans, agree-rank, agree-fit, linked-agree, linked-same, linked-walk}
use Rattle.nbt_siblings.proofs.Merges.{Three, First, three-swap, three-left, three-apart, sorted_none}

rank-inj : (doc t : List ℕ) (x y : ℕ) → x < 4294967296 → y < 4294967296 → rank doc t x ≡ rank doc t y → x ≡ y
unfolding rank
rank-inj doc t x y a b e = omega arith

-- how far a merge has come: p records of the first list are left, q of the second
pub record Merging (doc t₀ : List ℕ) (n : ℕ) (up : Bool) (U : ℕ → Type 0) (t : List ℕ) (x p y q acc : ℕ) : Type 0 where
  pub le : p + q ≤ n
  pub small : acc < 4294967296
  pub agree : Agree t₀ t U
  pub three : Three up (rank doc t₀) U (walk (link t) x p) (walk (link t) y q) (walk (link t) acc (n - (p + q)))

pub merging-swap : {doc t₀ : List ℕ} {n : ℕ} {up : Bool} {U : ℕ → Type 0} {t : List ℕ} {x p y q acc : ℕ}
    → Merging doc t₀ n up U t x p y q acc → Merging doc t₀ n up U t y q x p acc
merging-swap {p = p} {q = q} m = record {
  le = omega (arith, m.le);
  small = m.small;
  agree = m.agree;
  three = rw (let e : q + p ≡ p + q = omega arith in e) (three-swap m.three);
}

-- the records of the two lists
abbrev pub Either : List ℕ → ℕ → ℕ → ℕ → ℕ → ℕ → Type 0
Either t a na b nb z = Listed t a na z ⊎ Listed t b nb z

pub merging_start : (doc t : List ℕ) (a na b nb : ℕ) (up : Bool) → Two doc t a na b nb up → Merging doc t (na + nb) up (λ z. Either t a na b nb z) t a na b nb 0
merging_start doc t a na b nb up h = record {
  le = omega arith;
  small = omega arith;
  agree = agree-self t (λ z. Either t a na b nb z);
  three = rw (walk_none (link t) 0 (na + nb - (na + nb)) (omega arith))
      (record {
        sa = h.first;
        sb = h.second;
        sc = sorted_none (not up) (rank doc t);
        ca = λ z w m k. absurd (mem-none z m);
        cb = λ z w m k. absurd (mem-none z m);
        ab = h.apart;
        all = λ z m. ⊎_elim (λ l. inl l) (λ r. inr (inl r)) m;
        ina = λ z m. inl m;
        inb = λ z m. inr m;
        inc = λ z m. absurd (mem-none z m);
      });
}

module _ {doc t₀ : List ℕ} {n : ℕ} {up : Bool} {U : ℕ → Type 0} (fit : (z : ℕ) → U z → Fit doc t₀ z)
    {t : List ℕ} {x p y q acc : ℕ} (m : Merging doc t₀ n up U t x p y q acc) where
  first : (0 < q → Le up (rank doc t x) (rank doc t y)) → First up (rank doc t₀) x (walk (link t) y q)
  unfolding First
  first h =
      less_by 0 q
      (λ l. rw (walk-cons (link t) y q l)
      (subst (λ k. Le up k (rank doc t₀ y)) (agree-rank m.agree doc x) (subst (λ k. Le up (rank doc t x) k) (agree-rank m.agree doc y) (h l))))
      (λ l. rw (walk_none (link t) y q l) tt)

  pub merging-end : p + q ≤ 0 → Lists doc t₀ t U acc n (not up)
  merging-end h = record {
    sorted = subst (λ k. Sorted (not up) (rank doc t₀) (walk (link t) acc k)) e m.three.sc;
    all = λ z u. ⊎_elim (λ l. absurd (mem-none z (rw (walk_none (link t) x p (omega arith)) at l)))
        (λ r. ⊎_elim (λ l. absurd (mem-none z (rw (walk_none (link t) y q (omega arith)) at l)))
        (λ c. subst (λ k. Listed t acc k z) e c) r) (m.three.all z u);
    only = λ z c. m.three.inc z (subst (λ k. Listed t acc k z) (sym e) c);
    agree = m.agree;
  }
    where
      e : n - (p + q) ≡ n
      e = omega arith

  module _ (h : 0 < p) where
    ux : U x
    ux = m.three.ina x (walk_first (link t) x p h)

    pub merging-fit : Fit doc t x
    merging-fit = agree-fit m.agree doc x (fit x ux)

    left : (0 < q → Le up (rank doc t x) (rank doc t y)) → Merging doc t₀ n up U (linked t x acc) (link t x) (p - 1) y q x
    left f = record {
      le = omega (arith, m.le);
      small = (fit x ux).small;
      agree = agree_trans m.agree (linked-agree t x acc) (λ z u. u) (λ z e. subst U (sym e) ux);
      three = rw (ea, eb, ec) (three-left up (rank doc t₀) U inj x us vs ws split (first f));
    }
      where
        t' : List ℕ
        t' = linked t x acc

        us : List ℕ
        us = walk (link t) (link t x) (p - 1)

        vs : List ℕ
        vs = walk (link t) y q

        ws : List ℕ
        ws = walk (link t) acc (n - (p + q))

        inj : (v w : ℕ) → U v → U w → rank doc t₀ v ≡ rank doc t₀ w → v ≡ w
        inj v w a b e = rank-inj doc t₀ v w (fit v a).small (fit w b).small e

        split : Three up (rank doc t₀) U (x ∷ us) vs ws
        split = subst (λ l. Three up (rank doc t₀) U l vs ws) (walk-cons (link t) x p h) m.three

        apart : (Mem x us → ⊥) × (Mem x vs → ⊥) × (Mem x ws → ⊥)
        apart = three-apart up (rank doc t₀) U inj x us vs ws split

        ea : walk (link t') (link t x) (p - 1) ≡ us
        ea = linked-walk t x acc (link t x) (p - 1) apart.0

        eb : walk (link t') y q ≡ vs
        eb = linked-walk t x acc y q apart.1

        ec : walk (link t') x (n - (p - 1 + q)) ≡ x ∷ ws
        ec =
            ap (walk (link t') x) (let e : n - (p - 1 + q) ≡ n - (p + q) + 1 = omega (arith, m.le) in e)
            ∙ walk_more (link t') x (n - (p + q))
            ∙ ap (λ k. x ∷ walk (link t') k (n - (p + q))) (linked-same t x acc merging-fit.room)
            ∙ ap (λ l. x ∷ l) (linked-walk t x acc acc (n - (p + q)) apart.2)

    -- the same, with the table and the next record as the code has them
    pub merging-one : {t' : List ℕ} {next : ℕ} → (0 < q → Le up (rank doc t x) (rank doc t y)) → next ≡ link t x → t' ≡ linked t x acc
        → Merging doc t₀ n up U t' next (p - 1) y q x
    merging-one f e g = rw (e, g) (left f)
