-- Rules for answers: what a chain gives, from what its steps give.
-- Assumes nothing.
use Prim.Native.Nat.{ℕ, ◌+◌}
use mathlib.Core.Bool.{Bool, true, false}
use mathlib.Core.Path.{◌≡◌, refl, subst}
use Rattle.form.specs.Answer.{Out, got, no, guard, ◌>>◌, ◌>>=◌, bad_string}
use Rattle.form.specs.Decoding.{Verdict, good, bad}
use Rattle.form.specs.Reading.{readable}

-- a value of which P holds, or a refusal whose number and place R allows
abbrev Case : {A : Type 0} → (ℕ → ℕ → Type 0) → (A → Type 0) → Out A → Type 0
Case R P (got a) = P a
Case R P (no n p) = R n p

pub record Answers {A : Type 0} (R : ℕ → ℕ → Type 0) (P : A → Type 0) (o : Out A) : Type 0 where
  it : Case R P o

-- any value
abbrev pub Any : {A : Type 0} → A → Type 0
Any a = Unit {0}

-- no refusal is allowed
abbrev pub Accepted : ℕ → ℕ → Type 0
Accepted n p = ⊥

module _ {R : ℕ → ℕ → Type 0} where
  pub bind-answers : {A B : Type 0} {P : A → Type 0} {Q : B → Type 0} (o : Out A) (k : A → Out B)
      → Answers R P o → ((a : A) → P a → Answers R Q (k a)) → Answers R Q (o >>= k)
  bind-answers (got a) k h f = f a h.it
  bind-answers (no n p) k h f = record { it = h.it }

  pub guard-answers : {B : Type 0} {Q : B → Type 0} (t : Bool) (n p : ℕ) (r : Out B)
      → (t ≡ false → R n p) → (t ≡ true → Answers R Q r) → Answers R Q (guard t n p >> r)
  guard-answers true n p r h f = f refl
  guard-answers false n p r h f = record { it = h refl }

  pub readable-answers : {B : Type 0} {Q : B → Type 0} (v : Verdict) (start : ℕ) (r : Out B)
      → ((k : ℕ) → v ≡ bad k → R bad_string (start + k)) → (v ≡ good → Answers R Q r) → Answers R Q (readable v start >> r)
  readable-answers good start r h f = f refl
  readable-answers (bad k) start r h f = record { it = h k refl }

  pub then-answers : {B : Type 0} {P : Unit {0} → Type 0} {Q : B → Type 0} (o : Out (Unit {0})) (r : Out B)
      → Answers R P o → (o ≡ got tt → Answers R Q r) → Answers R Q (o >> r)
  then-answers (got tt) r h f = f refl
  then-answers (no n p) r h f = record { it = h.it }

  pub weaker : {A : Type 0} {P Q : A → Type 0} (o : Out A) → Answers R P o → ((a : A) → P a → Q a) → Answers R Q o
  weaker (got a) h f = record { it = f a h.it }
  weaker (no n p) h f = record { it = h.it }

  -- the refusals that R allows, others allow
  pub refused-also : {A : Type 0} {P : A → Type 0} {S : ℕ → ℕ → Type 0} (o : Out A) → Answers R P o → ((n p : ℕ) → R n p → S n p) → Answers S P o
  refused-also (got a) h f = record { it = h.it }
  refused-also (no n p) h f = record { it = f n p h.it }

-- the value of an answer that can't be a refusal
pub accepted : {A : Type 0} {P : A → Type 0} (o : Out A) → Answers Accepted P o → (a : A) × (o ≡ got a) × P a
accepted (got a) h = (a, refl, h.it)
accepted (no n p) h = absurd h.it

-- what a value or a refusal says, where it is known which
pub of-got : {A : Type 0} {R : ℕ → ℕ → Type 0} {P : A → Type 0} {o : Out A} {a : A} → o ≡ got a → Answers R P o → P a
of-got {A} {R} {P} e h = (subst (Answers R P) e h).it

pub of-no : {A : Type 0} {R : ℕ → ℕ → Type 0} {P : A → Type 0} {o : Out A} {n p : ℕ} → o ≡ no n p → Answers R P o → R n p
of-no {A} {R} {P} e h = (subst (Answers R P) e h).it

pub got-answers : {A : Type 0} {R : ℕ → ℕ → Type 0} {P : A → Type 0} {a : A} → P a → Answers R P (got a)
got-answers h = record { it = h }

pub no-answers : {A : Type 0} {R : ℕ → ℕ → Type 0} {P : A → Type 0} {n : ℕ} (p : ℕ) → R n p → Answers R P (no n p)
no-answers p h = record { it = h }
