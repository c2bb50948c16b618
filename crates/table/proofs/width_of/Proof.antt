-- Right since each arm has the definition's number; the kinds left have no width.
-- Assumes nothing.
use Prim.Native.Nat.{ℕ, zero, suc, ◌≤◌}
use mathlib.Core.Path.{◌≡◌, refl, sym, ap}
use native.Mathlib.Omega.{arith}
use Rattle.form.specs.Table.{width_of}
use Rattle.form.proofs.EachKind.{by_kind}
use Rattle.table.proofs.width_of.Statement.{statement}
use Rattle.table.proofs.width_of.Tie as tie

-- a kind that no arm names
other : (k : ℕ) → k ≤ 12 → (k ≡ 1 → ⊥) → (k ≡ 2 → ⊥) → (k ≡ 3 → ⊥) → (k ≡ 4 → ⊥) → (k ≡ 5 → ⊥) → (k ≡ 6 → ⊥) → (k ≡ 7 → ⊥) → (k ≡ 11 → ⊥) → (k ≡ 12 → ⊥)
    → 0 ≡ width_of k
unfolding width_of
other zero h a b c d e f g i j = refl
other (suc n) h a b c d e f g i j =
    by_kind (λ k. k ≡ suc n → 0 ≡ width_of k)
    (λ q. absurd (a (sym q))) (λ q. absurd (b (sym q))) (λ q. absurd (c (sym q))) (λ q. absurd (d (sym q))) (λ q. absurd (e (sym q)))
    (λ q. absurd (f (sym q))) (λ q. absurd (g (sym q))) (λ q. refl) (λ q. refl) (λ q. refl) (λ q. absurd (i (sym q))) (λ q. absurd (j (sym q)))
    (suc n) (omega arith) h refl

pub width_of_spec : {M : Type 1} → statement M
unfolding width_of
width_of_spec =
    tie.close
    (tie.spec
    (λ c. ap width_of (sym c.in-1.is))
    (λ c. ap width_of (sym c.in-2.is))
    (λ c. ap width_of (sym c.in-3.is))
    (λ c. ap width_of (sym c.in-4.is))
    (λ c. ap width_of (sym c.in-5.is))
    (λ c. ap width_of (sym c.in-6.is))
    (λ c. ap width_of (sym c.in-7.is))
    (λ c. ap width_of (sym c.in-11.is))
    (λ c. ap width_of (sym c.in-12.is))
    (λ c. let r = c.in_default.in_default-own.rest in
    other _ c.requires r.0.0.0.0.0.0.0.0.1 r.0.0.0.0.0.0.0.1 r.0.0.0.0.0.0.1 r.0.0.0.0.0.1 r.0.0.0.0.1 r.0.0.0.1 r.0.0.1 r.0.1 r.1))
