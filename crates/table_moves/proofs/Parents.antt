-- Parents worked out from end words: what a climb finds is the parent that the tree names.
-- Assumes nothing.
use Prim.Native.Nat.{ℕ, ◌+◌, ◌≤◌, ◌<◌}
use mathlib.Core.Path.{◌≡◌, refl, sym, ap, subst, ◌∙◌}
use mathlib.Core.Logic.{⊎_elim}
use mathlib.Core.Bool.{true}
use native.Mathlib.Omega.{arith}
use native.Mathlib.Decide.{ℕ_discrete}
use Rattle.form.specs.Table.{Head, Forest, none, node, size}
use Rattle.form.specs.Records.{SitsAt, UnderAt}
use Rattle.form.proofs.Picks.{lt-or}
use Rattle.form.proofs.Records.{at_first, at_inner, above-first, above-inner, held_by, held-inside}
use Rattle.table_moves.specs.Steps.{Innermost}

-- ---- the climb

module _ (get : ℕ → ℕ → ℕ) (i : ℕ) where
  -- The root's.
  pub root-innermost : i ≡ 0 → Innermost get i 0
  root-innermost e = record {
    root = λ _. refl;
    before = λ h. absurd (omega arith);
    around = λ h. absurd (omega arith);
    ended = λ m lo hi. absurd (omega arith);
  }

  module _ (q : ℕ) (below : q < i) (passed : (m : ℕ) → q < m → m < i → get m 7 ≤ i) where
    -- A record that has not ended at i.
    pub found : i < get q 7 → Innermost get i q
    found h = record { root = λ e. absurd (omega arith); before = λ _. below; around = λ _. h; ended = passed }

    -- From one that has the climb goes on to its parent p.
    module _ (ended : get q 7 ≤ i) (root : i < get 0 7) (p : ℕ) (parent : Innermost get q p) where
      -- It is not the root,
      pub climbs-on : 0 < q
      climbs-on = ⊎_elim (λ h. h) (λ h. absurd (let e : q ≡ 0 = omega arith in omega (arith, ended, root, ap (λ x. get x 7) e))) (lt-or 0 q)

      -- and what lies between has ended.
      pub climbed : (p < i) × ((m : ℕ) → p < m → m < i → get m 7 ≤ i)
      climbed = (omega (arith, parent.before climbs-on), λ m lo hi. between m lo hi)
        where
          between : (m : ℕ) → p < m → m < i → get m 7 ≤ i
          between m lo hi =
              ⊎_elim
              (λ h. omega (arith, parent.ended m lo h))
              (λ h. ⊎_elim (λ k. passed m k hi) (λ k. let e : q ≡ m = omega arith in subst (λ x. get x 7 ≤ i) e ended) (lt-or q m))
              (lt-or m q)

-- ---- it is the tree's

-- A record has one such parent.
pub one-innermost : (get : ℕ → ℕ → ℕ) (i p q : ℕ) → Innermost get i p → Innermost get i q → p ≡ q
one-innermost get i p q a b = go (ℕ_discrete i 0)
  where
    go : Dec (i ≡ 0) → p ≡ q
    go (yes e) = a.root e ∙ sym (b.root e)
    go (no n) =
        let some : 0 < i = omega arith in
        ⊎_elim
        (λ h. absurd (omega (arith, a.ended q h (b.before some), b.around some)))
        (λ h. ⊎_elim (λ k. absurd (omega (arith, b.ended p k (a.before some), a.around some))) (λ k. omega arith) (lt-or q p))
        (lt-or p q)

-- The parent that the tree names is such a one.
pub parent-innermost : (get : ℕ → ℕ → ℕ) (h : Head) (inner : Forest) → SitsAt get 0 (node h inner none) → UnderAt get true 0 0 (node h inner none)
    → (i : ℕ) → i < 1 + size inner → Innermost get i (get i 8)
parent-innermost get h inner s u i l = go (ℕ_discrete i 0)
  where
    end : get 0 7 ≡ 0 + 1 + size inner
    end = (at_first get 0 h inner none s).end

    go : Dec (i ≡ 0) → Innermost get i (get i 8)
    go (yes e) = subst (Innermost get i) (sym (ap (λ x. get x 8) e ∙ above-first get true 0 0 h inner none u refl)) (root-innermost get i e)
    go (no n) =
        let some : 0 < i = omega arith in
        let below = at_inner get 0 h inner none s in
        let under = above-inner get true 0 0 h inner none u in
        let above = held_by get 0 (0 + 1) inner below under i (omega arith) (omega arith) in
        record {
          root = λ e. absurd (n e);
          before = λ _. ⊎_elim (λ e. omega arith) (λ k. k.before) above;
          around = λ _. ⊎_elim (λ e. rw e (omega (arith, end))) (λ k. k.inside) above;
          ended = λ m lo hi.
              ⊎_elim
              (λ k. absurd (let held = held-inside get 0 (0 + 1) inner below under m i (omega arith) hi (omega arith) k in omega arith))
              (λ h. h)
              (lt-or i (get m 7));
        }
