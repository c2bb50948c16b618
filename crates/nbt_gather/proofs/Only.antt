-- An answer that is accepted or refused with 1, and so are the parts of its chain.
-- Assumes nothing.
use Prim.Native.Nat.{ℕ}
use mathlib.Core.Bool.{Bool, true, false}
use mathlib.Core.Path.{◌≡◌, refl}
use Rattle.form.specs.Answer.{Out, got, no, ◌>>=◌, ◌>>◌, guard, data_ends}
use Rattle.nbt_gather.specs.Steps.{OnlyCut, IsCut}

-- The first step of a chain.
pub only-first : {A B : Type 0} (o : Out A) (k : A → Out B) → OnlyCut (o >>= k) → OnlyCut o
only-first (got a) k h = tt
only-first (no m p) k h = h

-- The rest of it, where the first step is accepted.
pub only_next : {A B : Type 0} (o : Out A) (k : A → Out B) {a : A} → o ≡ got a → OnlyCut (o >>= k) → OnlyCut (k a)
only_next o k e h = rw e at h

-- Behind a test that refuses with another number: the test holds.
pub only-guard : {A : Type 0} (t : Bool) (n q : ℕ) (r : Out A) → (n ≡ data_ends → ⊥) → OnlyCut (guard t n q >> r) → (t ≡ true) × OnlyCut r
only-guard true n q r d h = (refl, h)
only-guard false n q r d h = absurd (d h)

-- A refusal with another number is no such answer.
pub only-not : {A : Type 0} {o : Out A} {m p : ℕ} → o ≡ no m p → (m ≡ data_ends → ⊥) → OnlyCut o → ⊥
only-not e d h = d (rw e at h)

-- What is refused with 1 is such an answer.
pub cut-only : {A : Type 0} {o : Out A} → IsCut o → OnlyCut o
cut-only c = rw c.1 refl
