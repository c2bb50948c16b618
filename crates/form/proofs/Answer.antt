-- Laws of answers: what a chain that was accepted says of its parts.
-- Assumes nothing.
use Prim.Native.Nat.{ℕ}
use mathlib.Core.Bool.{Bool, true, false}
use mathlib.Core.Path.{◌≡◌, refl, sym}
use native.Mathlib.Omega.{arith}
use Rattle.form.specs.Answer.{Out, got, no, ◌>>=◌, ◌>>◌, guard}

pub got-no : {A : Type 0} {a : A} {n p : ℕ} → got a ≡ no n p → ⊥
got-no {A} {a} {n} {p} e = let z : ◌≡◌ {A = ℕ} 0 1 = cc in omega arith

-- a chain that is accepted: its first step is, and so is the rest
pub bind-got : {A B : Type 0} (o : Out A) (k : A → Out B) {b : B} → (o >>= k) ≡ got b → (a : A) × (o ≡ got a) × (k a ≡ got b)
bind-got (got a) k e = (a, refl, e)
bind-got (no n p) k e = absurd (got-no (sym e))

-- a test in a chain that is accepted holds
pub guard-got : {A : Type 0} (t : Bool) (n p : ℕ) (r : Out A) {a : A} → (guard t n p >> r) ≡ got a → (t ≡ true) × (r ≡ got a)
guard-got true n p r e = (refl, e)
guard-got false n p r e = absurd (got-no (sym e))
