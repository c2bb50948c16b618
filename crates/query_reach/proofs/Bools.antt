-- Laws of `and` and `or` that the other files cite.
-- Assumes nothing.
use Prim.Native.Nat.{ℕ}
use mathlib.Core.Path.{◌≡◌, refl, sym}
use mathlib.Core.Logic.{◌⊎◌, inl, inr}
use mathlib.Core.Bool.{Bool, true, false, ◌||◌}
use native.Mathlib.Omega.{arith}

-- A test has one answer.
pub no_way : {A : Type 0} → (b : Bool) → b ≡ true → b ≡ false → A
no_way b x y = absurd (let z : ◌≡◌ {A = ℕ} 0 1 = cc in omega arith)

pub or_left : (a b : Bool) → a ≡ true → (a || b) ≡ true
or_left a b e = rw e

pub or_right : (a b : Bool) → b ≡ true → (a || b) ≡ true
or_right true b e = refl
or_right false b e = e

pub or_cases : (a b : Bool) → (a || b) ≡ true → (a ≡ true) ⊎ (b ≡ true)
or_cases true b e = inl refl
or_cases false b e = inr e

pub or_swap : (a b c : Bool) → ((a || b) || c) ≡ (a || (c || b))
or_swap true b c = refl
or_swap false true true = refl
or_swap false true false = refl
or_swap false false true = refl
or_swap false false false = refl

pub or-false : (a : Bool) → (a || false) ≡ a
or-false true = refl
or-false false = refl

-- What is implied adds nothing.
pub or-implied : (a b : Bool) → (b ≡ true → a ≡ true) → (a || b) ≡ a
or-implied true b h = refl
or-implied false true h = sym (h refl)
or-implied false false h = refl
