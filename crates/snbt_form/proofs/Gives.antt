-- Rules for answers: a value with a property, or a refusal with one of some numbers. What a chain gives, from what its steps give.
-- Assumes nothing.
use Prim.Native.Nat.{ℕ}
use mathlib.Core.Bool.{Bool, true, false, ◌&&◌}
use mathlib.Core.List.{List, [], ◌∷◌}
use mathlib.Core.Path.{◌≡◌, refl, sym, subst}
use lib.Dec.{eqb}
use borrow.Author.Tests.{eqb-true}
pub use Rattle.form.proofs.Answers.{Any}
use Rattle.form.specs.Answer.{Out, got, no, guard, pick, ◌>>◌, ◌>>=◌}
use Rattle.snbt_form.specs.Lexing.{among}

-- ---- the numbers of refusals

-- Of a text as a whole: its length, and that it is UTF-8.
abbrev pub of_whole : List ℕ
of_whole = 9 ∷ 15 ∷ []

-- Of rule 12's escapes.
abbrev pub of_escape : List ℕ
of_escape = 17 ∷ 19 ∷ 20 ∷ []

-- Of a content: those of escapes, and 15 where it is not UTF-8.
abbrev pub of_content : List ℕ
of_content = 15 ∷ 17 ∷ 19 ∷ 20 ∷ []

-- Of rule 13's numbers.
abbrev pub of_number : List ℕ
of_number = 18 ∷ 23 ∷ []

-- Of a token in a text that is UTF-8: those of escapes and of numbers, and 16 where a quote stays open.
abbrev pub of_token : List ℕ
of_token = 16 ∷ 17 ∷ 18 ∷ 19 ∷ 20 ∷ 23 ∷ []

-- Every number of the first list is among the second.
abbrev pub all_in : List ℕ → List ℕ → Bool
all_in [] ms = true
all_in (n ∷ ns) ms = among ms n && all_in ns ms

both_hold : (a b : Bool) → (a && b) ≡ true → (a ≡ true) × (b ≡ true)
both_hold true b e = (refl, e)
both_hold false b e = (e, cc)

-- So whatever is among the first is among the second.
pub among-all : (ns ms : List ℕ) (n : ℕ) → all_in ns ms ≡ true → among ns n ≡ true → among ms n ≡ true
unfolding among
among-all [] ms n h e = cc
among-all (m ∷ ns) ms n h e = let x = both_hold (among ms m) (all_in ns ms) h in go (eqb n m) refl x.0 (among-all ns ms n x.1) e
  where
    go : (b : Bool) → eqb n m ≡ b → among ms m ≡ true → (among ns n ≡ true → among ms n ≡ true) → pick b true (among ns n) ≡ true → among ms n ≡ true
    go true i first rest e = subst (λ x. among ms x ≡ true) (sym (eqb-true n m i)) first
    go false i first rest e = rest e

-- ---- answers

abbrev Case : {A : Type 0} → List ℕ → (A → Type 0) → Out A → Type 0
Case ns P (got a) = P a
Case ns P (no n p) = among ns n ≡ true

-- A value of which P holds, or a refusal with one of the numbers.
pub record Gives {A : Type 0} (ns : List ℕ) (P : A → Type 0) (o : Out A) : Type 0 where
  it : Case ns P o

module _ {ns : List ℕ} where
  pub gives-got : {A : Type 0} {P : A → Type 0} {a : A} → P a → Gives ns P (got a)
  gives-got h = record { it = h }

  pub gives-no : {A : Type 0} {P : A → Type 0} {n p : ℕ} → among ns n ≡ true → Gives ns P (no n p)
  gives-no h = record { it = h }

  pub gives-bind : {A B : Type 0} {P : A → Type 0} {Q : B → Type 0} (o : Out A) (k : A → Out B)
      → Gives ns P o → ((a : A) → P a → Gives ns Q (k a)) → Gives ns Q (o >>= k)
  gives-bind (got a) k h f = f a h.it
  gives-bind (no n p) k h f = gives-no h.it

  pub gives-guard : {B : Type 0} {Q : B → Type 0} (t : Bool) (n p : ℕ) (r : Out B)
      → among ns n ≡ true → (t ≡ true → Gives ns Q r) → Gives ns Q (guard t n p >> r)
  gives-guard true n p r h f = f refl
  gives-guard false n p r h f = gives-no h

  -- a test alone
  pub gives-test : (t : Bool) (n p : ℕ) → among ns n ≡ true → Gives ns Any (guard t n p)
  gives-test true n p h = gives-got tt
  gives-test false n p h = gives-no h

  -- a test before a chain, of any sort
  pub gives_then : {B : Type 0} {Q : B → Type 0} (u : Out (Unit {0})) (r : Out B)
      → Gives ns Any u → (u ≡ got tt → Gives ns Q r) → Gives ns Q (u >> r)
  gives_then (got tt) r h f = f refl
  gives_then (no n p) r h f = gives-no h.it

  pub gives-pick : {A : Type 0} {P : A → Type 0} (t : Bool) {x y : Out A}
      → (t ≡ true → Gives ns P x) → (t ≡ false → Gives ns P y) → Gives ns P (pick t x y)
  gives-pick true f g = f refl
  gives-pick false f g = g refl

  -- the same by `elim`
  pub gives-elim : {A : Type 0} {P : A → Type 0} (t : Bool) {x y : Out A}
      → (t ≡ true → Gives ns P x) → (t ≡ false → Gives ns P y) → Gives ns P (elim t [ true ↦ x | false ↦ y ])
  gives-elim true f g = f refl
  gives-elim false f g = g refl

  -- another property of what is accepted
  pub gives-also : {A : Type 0} {P Q : A → Type 0} (o : Out A) → Gives ns P o → ((a : A) → o ≡ got a → P a → Q a) → Gives ns Q o
  gives-also (got a) h f = gives-got (f a refl h.it)
  gives-also (no n p) h f = gives-no h.it

  -- what an accepted answer says, and a refusal
  pub gives-it : {A : Type 0} {P : A → Type 0} {o : Out A} {a : A} → o ≡ got a → Gives ns P o → P a
  gives-it {A} {P} e h = (subst (Gives ns P) e h).it

  pub gives-number : {A : Type 0} {P : A → Type 0} {o : Out A} {n p : ℕ} → o ≡ no n p → Gives ns P o → among ns n ≡ true
  gives-number {A} {P} e h = (subst (Gives ns P) e h).it

-- a chain's step that gives fewer numbers than the chain
pub gives_all : {ns ms : List ℕ} {A : Type 0} {P : A → Type 0} {o : Out A} → all_in ns ms ≡ true → Gives ns P o → Gives ms P o
gives_all {o = got a} e h = gives-got h.it
gives_all {ns} {ms} {o = no n p} e h = gives-no (among-all ns ms n e h.it)
