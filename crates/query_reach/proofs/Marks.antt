-- The steps of some kinds as a set: the loop that marks them, and what the two sets of a plan say of its steps.
-- Assumes nothing.
use Prim.Native.Nat.{ℕ, zero, suc, ◌+◌, ◌*◌, ◌^◌, ◌≤◌, ◌<◌}
use mathlib.Core.Path.{◌≡◌, refl, sym, subst, ◌∙◌}
use mathlib.Core.List.{List}
use mathlib.Core.Bool.{Bool, true, false, ◌&&◌}
use native.Mathlib.Omega.{arith}
use native.Mathlib.Decide.{ℕ_discrete}
use lib.ListN.{get_or}
use lib.Dec.{eqb, leb}
use lib.Bits.{bit_or}
use borrow.Author.Tests.{eqb-true, eqb-false, eq-eqb, ne_eqb, leb-true, leb-false, le-leb, lt-leb}
use Rattle.form.specs.Answer.{pick}
use Rattle.form.specs.Paths.{Hop}
use Rattle.query_steps.specs.Steps.{step_of}
use Rattle.query_steps.specs.declared.Step.{Step as StepWords}
use Rattle.query_reach.specs.Reached.{is_deep, deep_at, takes_at}
use Rattle.query_reach.specs.Sets.{has, Bits}
use Rattle.query_reach.specs.Plans.{words_of, planned, kind_in, Marked}
use Rattle.form.proofs.Picks.{and-true, and-false}
use Rattle.query_reach.proofs.Bools.{no_way, or-false}
use Rattle.query_reach.proofs.Sets.{has-none, has-or, has_one}
use Rattle.query_reach.proofs.Levels.{step-deep, step-shallow, takes-rest}

-- ---- marking

-- A number marked, or not.
has-mark : (b : Bool) (s k : ℕ) → has (pick b (2 ^ s) 0) k ≡ (b && eqb k s)
has-mark true s k = has_one s k
has-mark false s k = has-none k

-- One number more in a set: it is there as b says, and the others as they were.
module _ (a s : ℕ) (b : Bool) where
  pub mark-own : has a s ≡ false → has (bit_or a (pick b (2 ^ s) 0)) s ≡ b
  mark-own e = has-or a (pick b (2 ^ s) 0) s ∙ rw (e, has-mark b s s, eq-eqb s s refl) (and-true b)

  pub mark-other : (k : ℕ) → (k ≡ s → ⊥) → has (bit_or a (pick b (2 ^ s) 0)) k ≡ has a k
  mark-other k n = has-or a (pick b (2 ^ s) 0) k ∙ rw (has-mark b s k, ne_eqb k s n, and-false b) (or-false (has a k))

-- What the loop that marks keeps: the numbers below s are marked as g says, and no other.
pub record Marking (g : ℕ → Bool) (a s : ℕ) : Type 0 where
  pub is : (k : ℕ) → k < s → has a k ≡ g k
  pub none : (k : ℕ) → s ≤ k → has a k ≡ false

pub marking-start : {g : ℕ → Bool} → g 0 ≡ false → Marking g 0 1
marking-start {g} e = record { is = λ k l. is k l; none = λ k l. has-none k }
  where
    is : (k : ℕ) → k < 1 → has 0 k ≡ g k
    is zero l = has-none 0 ∙ sym e
    is (suc k) l = absurd (let z : suc k < 1 = l in omega arith)

pub marking-next : {g : ℕ → Bool} {a s : ℕ} → Marking g a s → {b : Bool} → b ≡ g s → {r : ℕ} → r ≡ pick b (2 ^ s) 0 → Marking g (bit_or a r) (s + 1)
marking-next {g} {a} {s} v {b} e {r} o = rw o (record {
  is = λ k l. is k l (ℕ_discrete k s);
  none = λ k l. mark-other a s b k (λ x. omega arith) ∙ v.none k (omega arith);
})
  where
    is : (k : ℕ) → k < s + 1 → Dec (k ≡ s) → has (bit_or a (pick b (2 ^ s) 0)) k ≡ g k
    is k l (yes x) = subst (λ (j : ℕ). has (bit_or a (pick b (2 ^ s) 0)) j ≡ g j) (sym x) (mark-own a s b (v.none s (omega arith)) ∙ e)
    is k l (no x) = mark-other a s b k x ∙ v.is k (omega arith)

module _ (plan : List ℕ) (n low high : ℕ) where
  -- The kind of a step is asked,
  pub kind_is : (s : ℕ) → 0 < s → s ≤ n → {b : Bool} → b ≡ (leb low (get_or plan (3 * s) 0) && leb (get_or plan (3 * s) 0) high) → b ≡ kind_in plan n low high s
  kind_is zero some l e = absurd (omega (arith, some))
  kind_is (suc s) some l e = rw (le-leb (suc s) n l) e

  -- and no other is marked.
  pub marking-end : {a s : ℕ} → Marking (kind_in plan n low high) a s → n < s → Bits (kind_in plan n low high) a
  marking-end {a} {s} v l = record { is = λ k. is k (leb s k) refl }
    where
      above : (k : ℕ) → s ≤ k → kind_in plan n low high k ≡ false
      above zero le = refl
      above (suc k) le = rw (lt-leb (suc k) n (omega arith))

      is : (k : ℕ) (b : Bool) → leb s k ≡ b → has a k ≡ kind_in plan n low high k
      is k true e = let le = leb-true s k e in v.none k le ∙ sym (above k le)
      is k false e = v.is k (leb-false s k e)

-- ---- the two sets of a plan

-- Whether a struct's step is 04.
deep-bit : (q : List ℕ) (t : StepWords) → eqb t.kind 4 ≡ is_deep (step_of q t)
deep-bit q t = go (eqb t.kind 4) refl
  where
    go : (b : Bool) → eqb t.kind 4 ≡ b → eqb t.kind 4 ≡ is_deep (step_of q t)
    go true e = e ∙ sym (step-deep q t (eqb-true t.kind 4 e))
    go false e = e ∙ sym (step-shallow q t (eqb-false t.kind 4 e))

four : (x : ℕ) → (leb 4 x && leb x 4) ≡ eqb x 4
four x = go (ℕ_discrete x 4) (leb 4 x) refl
  where
    go : Dec (x ≡ 4) → (b : Bool) → leb 4 x ≡ b → (leb 4 x && leb x 4) ≡ eqb x 4
    go (yes e) b h = rw e
    go (no n) true h = let l = leb-true 4 x h in rw (h, ne_eqb x 4 n) (lt-leb x 4 (omega (arith, n)))
    go (no n) false h = rw (h, ne_eqb x 4 n)

module _ {plan : List ℕ} {n : ℕ} (v : Marked plan n) (q : List ℕ) where
  -- The steps that are 04.
  pub deeps-are : (k : ℕ) → k ≤ n → has (get_or plan 0 0) k ≡ deep_at (planned q plan) k
  deeps-are zero l = v.deeps.is 0
  deeps-are (suc k) l = v.deeps.is (suc k) ∙ rw (le-leb (suc k) n l) (four (words_of plan (suc k)).kind ∙ deep-bit q (words_of plan (suc k)))

  -- A step that is not asked takes every hop.
  pub free-takes : (h : Hop) (k : ℕ) → 0 < k → k ≤ n → has (get_or plan 1 0) k ≡ false → takes_at (planned q plan) h k ≡ true
  free-takes h zero some l e = absurd (omega (arith, some))
  free-takes h (suc k) some l e = takes-rest q (words_of plan (suc k)) (λ x. other 1 x refl) (λ x. other 2 x refl) h
    where
      other : (i : ℕ) → (words_of plan (suc k)).kind ≡ i → (leb 1 i && leb i 2) ≡ true → ⊥
      other i x t = no_way (kind_in plan n 1 2 (suc k)) (rw (le-leb (suc k) n l, x) t) (sym (v.asks.is (suc k)) ∙ e)
