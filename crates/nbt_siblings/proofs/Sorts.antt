-- Laws of sorting records side by side, in two halves.
-- Assumes nothing.
use Prim.Native.Nat.{ℕ, ◌+◌, ◌-◌, ◌<◌}
use mathlib.Core.Bool.{Bool, true, false, not}
use mathlib.Core.List.{List, []}
use mathlib.Core.Path.{◌≡◌, refl, sym, ap, subst, ◌∙◌}
use mathlib.Core.Logic.{◌⊎◌, inl, inr, ⊎_elim}
use native.Mathlib.Omega.{arith}
use Rattle.nbt_siblings.specs.Names.{end_of}
use Rattle.nbt_siblings.specs.Links.{rank, link, Mem, walk, past, Sorted, Agree}
use Rattle.nbt_siblings.specs.Lists.{Two, Lists, Row, Sorts}
use Rattle.nbt_siblings.proofs.Walks.{walk-ext, past-ext, past-add, walk-add, walk-left, walk-right, walk-low, walk-high, mem-none}
use Rattle.nbt_siblings.proofs.Tables.{Listed, agree-self, agree_trans, agree-rank, agree-fit, agree-end, agree-link}
use Rattle.nbt_siblings.proofs.Merges.{sorted_ext, sorted-cons, sorted_none}
use Rattle.nbt_siblings.proofs.Runs.{Either}

-- one record is a list
single : (doc t : List ℕ) (at : ℕ) (up : Bool) → Sorts doc t t at 1 up at (end_of t at)
unfolding walk past
single doc t at up = record {
  next_is = refl;
  lists = record {
    sorted = sorted-cons up (rank doc t) at [] (λ z m. absurd (mem-none z m)) (sorted_none up (rank doc t));
    all = λ z u. u;
    only = λ z u. u;
    agree = agree-self t (λ z. Mem z (walk (end_of t) at 1));
  };
}

pub sorts-one : (doc t : List ℕ) (at n : ℕ) (up : Bool) (next : ℕ) → n ≡ 1 → next ≡ end_of t at → Sorts doc t t at n up at next
sorts-one doc t at n up next e f = rw (e, f) (single doc t at up)

pub not-not : (b : Bool) → not (not b) ≡ b
not-not true = refl
not-not false = refl

module _ {doc t : List ℕ} {at n : ℕ} (row : Row doc t at n) (half : ℕ) (h : (0 < half) × (half < n)) where
  mid : ℕ
  mid = past (end_of t) at half

  total : half + (n - half) ≡ n
  total = omega arith

  whole : (z : ℕ) → Mem z (walk (end_of t) at half) ⊎ Mem z (walk (end_of t) mid (n - half)) → Mem z (walk (end_of t) at n)
  unfolding mid
  whole z m =
      subst (λ k. Mem z (walk (end_of t) at k)) total
      (⊎_elim (λ l. walk-left (end_of t) half (n - half) at z l) (λ r. walk-right (end_of t) half (n - half) at z r) m)

  parts : (z : ℕ) → Mem z (walk (end_of t) at n) → Mem z (walk (end_of t) at half) ⊎ Mem z (walk (end_of t) mid (n - half))
  unfolding mid
  parts z m = walk-add (end_of t) half (n - half) at z (subst (λ k. Mem z (walk (end_of t) at k)) (sym total) m)

  apart : (z : ℕ) → Mem z (walk (end_of t) at half) → Mem z (walk (end_of t) mid (n - half)) → ⊥
  unfolding mid
  apart z l r =
      omega (
        arith,
        walk-high (end_of t) half at (λ w m. row.on w (whole w (inl m))) z l,
        walk-low (end_of t) (n - half) mid (λ w m. row.on w (whole w (inr m))) z r,
      )

  pub row-left : Row doc t at half
  row-left = record {
    some = h.0;
    few = omega (arith, row.few);
    fit = λ z m. row.fit z (whole z (inl m));
    on = λ z m. row.on z (whole z (inl m));
  }

  module _ {u : Bool} {t₁ : List ℕ} {hl ml : ℕ} (l : Sorts doc t t₁ at half u hl ml) where
    end_same : (z : ℕ) → end_of t₁ z ≡ end_of t z
    end_same z = agree-end l.lists.agree z

    walk_same : walk (end_of t₁) ml (n - half) ≡ walk (end_of t) mid (n - half)
    unfolding mid
    walk_same =
        walk-ext (end_of t₁) (end_of t) (n - half) ml (λ z m. end_same z) ∙ ap (λ a. walk (end_of t) a (n - half)) l.next_is

    to : (z : ℕ) → Mem z (walk (end_of t₁) ml (n - half)) → Mem z (walk (end_of t) mid (n - half))
    to z m = subst (λ w. Mem z w) walk_same m

    from : (z : ℕ) → Mem z (walk (end_of t) mid (n - half)) → Mem z (walk (end_of t₁) ml (n - half))
    from z m = subst (λ w. Mem z w) (sym walk_same) m

    pub row-right : Row doc t₁ ml (n - half)
    row-right = record {
      some = omega arith;
      few = omega (arith, row.few);
      fit = λ z m. agree-fit l.lists.agree doc z (row.fit z (whole z (inr (to z m))));
      on = λ z m. omega (arith, end_same z, row.on z (whole z (inr (to z m))));
    }

    module _ {t₂ : List ℕ} {hr nr : ℕ} (r : Sorts doc t₁ t₂ ml (n - half) u hr nr) where
      both : Agree t t₂ (λ z. Mem z (walk (end_of t) at n))
      both = agree_trans l.lists.agree r.lists.agree (λ z m. whole z (inl m)) (λ z m. whole z (inr (to z m)))

      keep : walk (link t₁) hl half ≡ walk (link t₂) hl half
      keep =
          walk-ext (link t₁) (link t₂) half hl
          (λ z m. sym (agree-link r.lists.agree z (λ k. apart z (l.lists.only z m) (to z k))))

      left_in : (z : ℕ) → Listed t₂ hl half z → Mem z (walk (end_of t) at half)
      left_in z m = l.lists.only z (subst (λ w. Mem z w) (sym keep) m)

      right-in : (z : ℕ) → Listed t₂ hr (n - half) z → Mem z (walk (end_of t) mid (n - half))
      right-in z m = to z (r.lists.only z m)

      in_all : (z : ℕ) → Either t₂ hl half hr (n - half) z → Mem z (walk (end_of t) at n)
      in_all z m = ⊎_elim (λ a. whole z (inl (left_in z a))) (λ b. whole z (inr (right-in z b))) m

      pub sorts-two : Two doc t₂ hl half hr (n - half) u
      sorts-two = record {
        few = omega (arith, row.few);
        first = subst (λ w. Sorted u (rank doc t₂) w) keep
            (sorted_ext u (rank doc t) (rank doc t₂) (walk (link t₁) hl half) (λ z. sym (agree-rank both doc z)) l.lists.sorted);
        second = sorted_ext u (rank doc t₁) (rank doc t₂) (walk (link t₂) hr (n - half))
            (λ z. sym (agree-rank r.lists.agree doc z)) r.lists.sorted;
        apart = λ z a b. apart z (left_in z a) (right-in z b);
        fit = λ z m. agree-fit both doc z (row.fit z (in_all z m));
      }

      next-same : nr ≡ past (end_of t) at n
      unfolding mid
      next-same =
          r.next_is
          ∙ past-ext (end_of t₁) (end_of t) (n - half) ml end_same
          ∙ ap (λ a. past (end_of t) a (n - half)) l.next_is
          ∙ sym (past-add (end_of t) half (n - half) at)
          ∙ ap (past (end_of t) at) total

      pub sorts-join : {t₃ : List ℕ} {head : ℕ} → Lists doc t₂ t₃ (λ z. Either t₂ hl half hr (n - half) z) head (half + (n - half)) (not u)
          → Sorts doc t t₃ at n (not u) head nr
      sorts-join {t₃ = t₃} {head = head} m = record {
        next_is = next-same;
        lists = record {
          sorted = subst (λ k. Sorted (not u) (rank doc t) (walk (link t₃) head k)) total
              (sorted_ext (not u) (rank doc t₂) (rank doc t) (walk (link t₃) head (half + (n - half)))
              (λ z. agree-rank both doc z) m.sorted);
          all = λ z k. subst (λ i. Listed t₃ head i z) total
              (m.all z (⊎_elim (λ a. inl (subst (λ w. Mem z w) keep (l.lists.all z a))) (λ b. inr (r.lists.all z (from z b))) (parts z k)));
          only = λ z k. in_all z (m.only z (subst (λ i. Listed t₃ head i z) (sym total) k));
          agree = agree_trans both m.agree (λ z k. k) in_all;
        };
      }
