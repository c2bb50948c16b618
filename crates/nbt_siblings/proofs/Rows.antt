-- Laws of records side by side.
-- Assumes nothing.
use Prim.Native.Nat.{ℕ, zero, suc, ◌+◌, ◌-◌, ◌≤◌, ◌<◌}
use mathlib.Core.List.{List, [], ◌∷◌}
use mathlib.Core.Path.{◌≡◌, refl, sym, ap, subst}
use native.Mathlib.Omega.{arith}
use native.Mathlib.Numerals.{sub-one}
use borrow.Author.Tests.{lt-ltb, le-ltb}
use lib.ListN.{length}
use Rattle.nbt_siblings.specs.Names.{end_of, siblings}
use Rattle.nbt_siblings.specs.Links.{Mem, walk}
use Rattle.nbt_siblings.specs.Lists.{Again}
use Rattle.nbt_siblings.proofs.Cases.{less_by}
use Rattle.nbt_siblings.proofs.Walks.{mem-cases, mem-head, mem-tail, mem-none, walk-low}

-- a record is one of those side by side
abbrev pub Beside : List ℕ → ℕ → ℕ → ℕ → Type 0
Beside t first stop z = Mem z (siblings t stop stop first)

-- and an earlier one of them has its name
abbrev pub Repeats : List ℕ → List ℕ → ℕ → ℕ → ℕ → Type 0
Repeats doc t first stop z = Again doc t (λ w. Mem w (siblings t stop stop first)) z

module _ (t : List ℕ) (stop : ℕ) where
  pub siblings-on : (fuel i : ℕ) → 0 < fuel → i < stop → siblings t stop fuel i ≡ i ∷ siblings t stop (fuel - 1) (end_of t i)
  unfolding siblings
  siblings-on zero i h l = absurd (omega arith)
  siblings-on (suc fuel) i h l = rw (sub-one (suc fuel), siblings, lt-ltb i stop l) refl

  more : (fuel i : ℕ) → i < stop → siblings t stop (suc fuel) i ≡ i ∷ siblings t stop fuel (end_of t i)
  more fuel i l = rw (sub-one (suc fuel)) at (siblings-on (suc fuel) i (omega arith) l)

  pub siblings-none : (fuel i : ℕ) → stop ≤ i → siblings t stop fuel i ≡ []
  unfolding siblings
  siblings-none zero i l = refl
  siblings-none (suc fuel) i l = rw (siblings, le-ltb i stop l) refl

  nothing : (i : ℕ) → siblings t stop zero i ≡ []
  unfolding siblings
  nothing i = refl

  pub siblings-few : (fuel i : ℕ) → length (siblings t stop fuel i) ≤ fuel
  siblings-few zero i = rw (ap length (nothing i)) (omega arith)
  siblings-few (suc fuel) i =
      let h = siblings-few fuel (end_of t i) in
      less_by i stop (λ l. omega (arith, h, ap length (more fuel i l))) (λ l. omega (arith, ap length (siblings-none (suc fuel) i l)))

  pub siblings-below : (fuel i z : ℕ) → Mem z (siblings t stop fuel i) → z < stop
  siblings-below zero i z m = absurd (mem-none z (rw (nothing i) at m))
  siblings-below (suc fuel) i z m =
      less_by i stop
      (λ l. mem-cases (z < stop) z i (siblings t stop fuel (end_of t i)) (λ q. omega (arith, q, l)) (siblings-below fuel (end_of t i) z) (rw (more fuel i l) at m))
      (λ l. absurd (mem-none z (rw (siblings-none (suc fuel) i l) at m)))

  pub siblings-walk : (fuel i : ℕ) → siblings t stop fuel i ≡ walk (end_of t) i (length (siblings t stop fuel i))
  unfolding siblings walk
  siblings-walk zero i = refl
  siblings-walk (suc fuel) i =
      let h = siblings-walk fuel (end_of t i) in
      less_by i stop (λ l. rw (more fuel i l) (ap (λ r. i ∷ r) h)) (λ l. rw (siblings-none (suc fuel) i l) refl)

  -- where each record ends after itself, the first is the least
  pub siblings-low : (fuel i : ℕ) → ((z : ℕ) → Mem z (siblings t stop fuel i) → z < end_of t z) → (z : ℕ) → Mem z (siblings t stop fuel i) → i ≤ z
  siblings-low fuel i up z m =
      let e = siblings-walk fuel i in
      walk-low (end_of t) (length (siblings t stop fuel i)) i (λ v k. up v (subst (λ x. Mem v x) (sym e) k)) z (subst (λ x. Mem z x) e m)

-- how far a count of them has come
pub record Counting (t : List ℕ) (stop first n i : ℕ) : Type 0 where
  pub fuel : ℕ
  pub enough : stop ≤ fuel + i
  pub n_le : n ≤ i
  pub is : length (siblings t stop stop first) ≡ n + length (siblings t stop fuel i)
  pub sub : (z : ℕ) → Mem z (siblings t stop fuel i) → Beside t first stop z

pub counting-start : (t : List ℕ) (stop first : ℕ) → Counting t stop first 0 first
counting-start t stop first = record { fuel = stop; enough = omega arith; n_le = omega arith; is = omega arith; sub = λ z m. m }

module _ {t : List ℕ} {stop first n i : ℕ} (c : Counting t stop first n i) where
  pub counting-end : stop ≤ i → n ≡ length (siblings t stop stop first)
  counting-end h = omega (arith, c.is, ap length (siblings-none t stop c.fuel i h))

  module _ (h : i < stop) where
    cons : siblings t stop c.fuel i ≡ i ∷ siblings t stop (c.fuel - 1) (end_of t i)
    cons = siblings-on t stop c.fuel i (omega (arith, c.enough)) h

    pub counting-here : Beside t first stop i
    counting-here = c.sub i (rw cons (mem-head i i _ refl))

    pub counting-next : i < end_of t i → Counting t stop first (n + 1) (end_of t i)
    counting-next l = record {
      fuel = c.fuel - 1;
      enough = omega (arith, c.enough);
      n_le = omega (arith, c.n_le);
      is = omega (arith, c.is, ap length cons);
      sub = λ z m. c.sub z (rw cons (mem-tail z i _ m));
    }
