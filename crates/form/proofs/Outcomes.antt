-- WriteGives and a query have one outcome each: two that the promise allows are the same. Whether words form a table is not decided for it:
-- whether two outcomes are the same can be, and in none of the three cases can they differ.
-- Assumes nothing.
use Prim.Native.Nat.{ℕ}
use mathlib.Core.Path.{◌≡◌, ap, sym, ◌∙◌}
use mathlib.Core.List.{List, List-discrete}
use native.Mathlib.Omega.{arith}
use native.Mathlib.Decide.{ℕ_discrete, map_dec}
use lib.ListN.{length}
use Rattle.form.specs.Form.{Form, Way}
use Rattle.form.specs.Answer.{Out, got, no as refused, Count, counted, failed}
use Rattle.form.specs.Tables.{IsTable, Within}
use Rattle.form.specs.Writing.{Gives, WriteGives, WriteIs}
use Rattle.form.specs.Stored.{WriteLinesIs}
use Rattle.form.specs.Query.{Answered, Finds, QueryIs}
use Rattle.form.proofs.Answer.{got-no}

-- ---- what can be decided

pub both : {A B : Type 0} → Dec A → Dec B → Dec (A × B)
both (yes a) (yes b) = yes (a, b)
both (yes a) (no n) = no (λ p. n p.1)
both (no n) b = no (λ p. n p.0)

pub same-list : (l m : List ℕ) → Dec (l ≡ m)
same-list = List-discrete ℕ_discrete

same_out : (a b : Out ℕ) → Dec (a ≡ b)
same_out (got m) (got n) = map_dec (ap got) (λ e. cc) (ℕ_discrete m n)
same_out (got m) (refused n p) = no (λ e. got-no e)
same_out (refused n p) (got m) = no (λ e. got-no (sym e))
same_out (refused n p) (refused m q) = map_dec (λ e. let a = e.0 in let b = e.1 in cc) (λ e. (cc, cc)) (both (ℕ_discrete n m) (ℕ_discrete p q))

pub counted-failed : {m n p c : ℕ} → counted m ≡ failed n p c → ⊥
counted-failed {m} {n} {p} {c} e = let z : ◌≡◌ {A = ℕ} 0 1 = cc in omega arith

same_count : (a b : Count) → Dec (a ≡ b)
same_count (counted m) (counted n) = map_dec (ap counted) (λ e. cc) (ℕ_discrete m n)
same_count (counted m) (failed n p c) = no (λ e. counted-failed e)
same_count (failed n p c) (counted m) = no (λ e. counted-failed (sym e))
same_count (failed n p c) (failed m q d) =
    map_dec (λ e. let x = e.0 in let y = e.1.0 in let z = e.1.1 in cc) (λ e. (cc, (cc, cc))) (both (ℕ_discrete n m) (both (ℕ_discrete p q) (ℕ_discrete c d)))

-- ---- the three cases

-- What holds over the limits, within them of no table, and of a table, holds.
pub in-each-case : {W T C : Type 0} → Dec C → ((W → ⊥) → C) → (W → (T → ⊥) → C) → (W → T → C) → C
in-each-case (yes c) large unfit fit = c
in-each-case (no n) large unfit fit = absurd (n (large (λ w. n (unfit w (λ t. n (fit w t))))))

-- ---- one outcome

gives_one : (w : Out (List ℕ)) (o : List ℕ) (a₁ a₂ : Out ℕ) (o₁ o₂ : List ℕ) → Gives w o a₁ o₁ → Gives w o a₂ o₂ → (a₁ ≡ a₂) × (o₁ ≡ o₂)
gives_one w o a₁ a₂ o₁ o₂ g h = (g.answer_is ∙ sym h.answer_is, g.output_is ∙ sym h.output_is)

writes_one : (way : Way) (doc t : List ℕ) (w : Out (List ℕ)) (o : List ℕ) (a₁ a₂ : Count) (o₁ o₂ : List ℕ) → WriteGives way doc t w o a₁ o₁ → WriteGives way doc t w o a₂ o₂
    → (a₁ ≡ a₂) × (o₁ ≡ o₂)
writes_one way doc t w o a₁ a₂ o₁ o₂ g h = (g.answer_is ∙ sym h.answer_is, g.output_is ∙ sym h.output_is)

-- Two outcomes of a write are the same: the answer, with the record of a 4 ([3]), and the output.
pub one-write : (way : Way) (doc t o : List ℕ) (a₁ a₂ : Count) (o₁ o₂ : List ℕ) → WriteIs way doc t o a₁ o₁ → WriteIs way doc t o a₂ o₂ → (a₁ ≡ a₂) × (o₁ ≡ o₂)
one-write way doc t o a₁ a₂ o₁ o₂ g h =
    in-each-case {W = Within (length doc) t} {T = IsTable (length doc) t} (both (same_count a₁ a₂) (same-list o₁ o₂))
    (λ n. writes_one way doc t _ o a₁ a₂ o₁ o₂ (g.large n) (h.large n))
    (λ w n. writes_one way doc t _ o a₁ a₂ o₁ o₂ (g.unfit w n) (h.unfit w n))
    (λ w i. writes_one way doc t _ o a₁ a₂ o₁ o₂ (g.fit w i) (h.fit w i))

-- Two outcomes of writing a table's lines ([6]): the answer and the output.
pub one-write-lines : (d : ℕ) (t o : List ℕ) (a₁ a₂ : Out ℕ) (o₁ o₂ : List ℕ) → WriteLinesIs d t o a₁ o₁ → WriteLinesIs d t o a₂ o₂
    → (a₁ ≡ a₂) × (o₁ ≡ o₂)
one-write-lines d t o a₁ a₂ o₁ o₂ g h =
    in-each-case {W = Within d t} {T = IsTable d t} (both (same_out a₁ a₂) (same-list o₁ o₂))
    (λ n. gives_one _ o a₁ a₂ o₁ o₂ (g.large n) (h.large n))
    (λ w n. gives_one _ o a₁ a₂ o₁ o₂ (g.unfit w n) (h.unfit w n))
    (λ w i. gives_one _ o a₁ a₂ o₁ o₂ (g.fit w i) (h.fit w i))

finds-one : (f : Answered) (l : List ℕ) (a₁ a₂ : Count) (l₁ l₂ : List ℕ) → Finds f l a₁ l₁ → Finds f l a₂ l₂ → (a₁ ≡ a₂) × (l₁ ≡ l₂)
finds-one f l a₁ a₂ l₁ l₂ g h = (g.answer_is ∙ sym h.answer_is, g.list_is ∙ sym h.list_is)

-- Two outcomes of a query are the same: the answer and the list.
pub one-query : (form : Form) (doc t q l : List ℕ) (a₁ a₂ : Count) (l₁ l₂ : List ℕ) → QueryIs form doc t q l a₁ l₁ → QueryIs form doc t q l a₂ l₂ → (a₁ ≡ a₂) × (l₁ ≡ l₂)
one-query form doc t q l a₁ a₂ l₁ l₂ g h =
    in-each-case {W = Within (length doc) t} {T = IsTable (length doc) t} (both (same_count a₁ a₂) (same-list l₁ l₂))
    (λ n. finds-one _ l a₁ a₂ l₁ l₂ (g.large n) (h.large n))
    (λ w n. finds-one _ l a₁ a₂ l₁ l₂ (g.unfit w n) (h.unfit w n))
    (λ w i. finds-one _ l a₁ a₂ l₁ l₂ (g.fit w i) (h.fit w i))
