-- Two numbers are the same or not, and the first is less or not.
-- Assumes nothing.
use Prim.Native.Nat.{ℕ, ◌≤◌, ◌<◌}
use mathlib.Core.Bool.{Bool, true, false}
use mathlib.Core.Path.{◌≡◌, refl}
use borrow.Author.Tests.{ltb-true, ltb-false, eqb-true, eqb-false}
use lib.Dec.{ltb, eqb}

pub same_by : {P : Type 0} (a b : ℕ) → (a ≡ b → P) → ((a ≡ b → ⊥) → P) → P
same_by {P = P} a b f g = go (eqb a b) refl
  where
    go : (c : Bool) → eqb a b ≡ c → P
    go true e = f (eqb-true a b e)
    go false e = g (eqb-false a b e)

pub less_by : {P : Type 0} (a b : ℕ) → (a < b → P) → (b ≤ a → P) → P
less_by {P = P} a b f g = go (ltb a b) refl
  where
    go : (c : Bool) → ltb a b ≡ c → P
    go true e = f (ltb-true a b e)
    go false e = g (ltb-false a b e)
