-- Answers that agree but where the first refuses with one number: rules for chains.
-- Assumes nothing.
use Prim.Native.Nat.{ℕ}
use mathlib.Core.Bool.{Bool, true, false}
use mathlib.Core.Path.{◌≡◌, refl, sym, ap, ◌∙◌}
use Rattle.form.specs.Answer.{Out, got, no, ◌>>=◌, ◌>>◌, guard}
use Rattle.form.proofs.Answer.{got-no}

-- The second answer is the first, where that is no refusal with the number q.
pub record Agrees (q : ℕ) {A : Type 0} (o₁ o₂ : Out A) : Type 0 where
  pub it : ((p : ℕ) → o₁ ≡ no q p → ⊥) → o₂ ≡ o₁

module _ {q : ℕ} where
  pub agrees-self : {A : Type 0} (o : Out A) → Agrees q o o
  agrees-self o = record { it = λ f. refl }

  pub agrees-is : {A : Type 0} {o₁ o₂ : Out A} → o₂ ≡ o₁ → Agrees q o₁ o₂
  agrees-is e = record { it = λ f. e }

  pub agrees-no : {A : Type 0} {o₁ : Out A} (o₂ : Out A) {p : ℕ} → o₁ ≡ no q p → Agrees q o₁ o₂
  agrees-no o₂ {p} e = record { it = λ f. absurd (f p e) }

  pub bind-agrees : {A B : Type 0} (o₁ o₂ : Out A) (k₁ k₂ : A → Out B) → Agrees q o₁ o₂ → ((a : A) → o₁ ≡ got a → Agrees q (k₁ a) (k₂ a)) → Agrees q (o₁ >>= k₁) (o₂ >>= k₂)
  bind-agrees (got a) o₂ k₁ k₂ h f = record { it = λ z. ap (λ o. o >>= k₂) (h.it (λ p e. got-no e)) ∙ (f a refl).it z }
  bind-agrees (no n r) o₂ k₁ k₂ h f = record { it = λ z. ap (λ o. o >>= k₂) (h.it (λ p e. z p (let a : n ≡ q = cc in let b : r ≡ p = cc in λ i. no (a i) (b i)))) }

  pub guard-agrees : {A : Type 0} (t : Bool) (n p : ℕ) (r₁ r₂ : Out A) → (t ≡ true → Agrees q r₁ r₂) → Agrees q (guard t n p >> r₁) (guard t n p >> r₂)
  guard-agrees true n p r₁ r₂ h = h refl
  guard-agrees false n p r₁ r₂ h = agrees-self (no n p)

  -- What agrees is accepted alike, and refused alike with another number.
  pub agrees-got : {A : Type 0} {o₁ o₂ : Out A} {a : A} → Agrees q o₁ o₂ → o₁ ≡ got a → o₂ ≡ got a
  agrees-got h e = h.it (λ p f. got-no (sym e ∙ f)) ∙ e

  pub agrees-other : {A : Type 0} {o₁ o₂ : Out A} {n p : ℕ} → (n ≡ q → ⊥) → Agrees q o₁ o₂ → o₁ ≡ no n p → o₂ ≡ no n p
  agrees-other {A} {o₁} {o₂} {n} {p} d h e = h.it (λ r f. d (cc (e, f))) ∙ e
