-- Laws of a stretch of links that are 0, or are set to 0.
-- Assumes nothing.
use Prim.Native.Nat.{ℕ, ◌+◌, ◌*◌, ◌≤◌, ◌<◌}
use mathlib.Core.List.{List}
use mathlib.Core.Path.{◌≡◌, sym, ap, subst, ◌∙◌}
use native.Mathlib.Omega.{arith}
use lib.ListN.{length}
use Rattle.nbt_siblings.specs.Links.{link, linked, Agree}
use Rattle.nbt_siblings.specs.Cells.{Blank, Wiped}
use Rattle.nbt_siblings.proofs.Cases.{same_by}
use Rattle.nbt_siblings.proofs.Tables.{agree-self, agree_trans, agree_same, linked-agree, linked-same, linked-other}

pub blank-start : (t : List ℕ) (from : ℕ) → Blank t from from
unfolding Blank
blank-start t from z a b = absurd (omega arith)

pub blank-next : (t : List ℕ) (from k : ℕ) → Blank t from k → link t k ≡ 0 → Blank t from (k + 1)
unfolding Blank
blank-next t from k b e z l h = same_by z k (λ q. ap (link t) q ∙ e) (λ n. b z l (omega (arith, h, n)))

pub blank-end : (t : List ℕ) (from k to : ℕ) → Blank t from k → to ≤ k → Blank t from to
unfolding Blank
blank-end t from k to b h z l m = b z l (omega (arith, h, m))

pub wiped-start : (t : List ℕ) (from : ℕ) → Wiped t t from from
wiped-start t from = record { frame = agree-self t (λ z. (from ≤ z) × (z < from)); zero = blank-start t from }

pub wiped-next : {t₀ t t' : List ℕ} {from k : ℕ} → Wiped t₀ t from k → from ≤ k → 9 * k + 9 ≤ length t → t' ≡ linked t k 0 → Wiped t₀ t' from (k + 1)
unfolding Blank
wiped-next {t = t} {from = from} {k = k} w l h e = rw e (record {
  frame = agree_trans w.frame (linked-agree t k 0) (λ z m. (m.0, omega (arith, m.1))) (λ z m. (omega (arith, m, l), omega (arith, m)));
  zero = blank-next (linked t k 0) from k (λ z a b. linked-other t k 0 z (λ q. omega (arith, q, b)) ∙ w.zero z a b) (linked-same t k 0 h);
})

pub wiped-end : {t₀ t : List ℕ} {from k to : ℕ} → Wiped t₀ t from k → k ≤ to → to ≤ k → Wiped t₀ t from to
wiped-end {t₀ = t₀} {t = t} {from = from} {k = k} {to = to} w a b = subst (λ j. Wiped t₀ t from j) (let e : k ≡ to = omega arith in e) w

pub wiped-back : {t₀ t t' : List ℕ} {from to : ℕ} → Blank t₀ from to → Agree t₀ t (λ z. (from ≤ z) × (z < to)) → Wiped t t' from to → t' ≡ t₀
unfolding Blank
wiped-back {from = from} {to = to} b g w =
    agree_same {U = λ z. (from ≤ z) × (z < to)} (agree_trans g w.frame (λ z m. m) (λ z m. m)) (λ z m. w.zero z m.0 m.1 ∙ sym (b z m.0 m.1))
