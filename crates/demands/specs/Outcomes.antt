-- What is claimed of the promises that go by cases: a write, in whatever form, and a query have one outcome each. Over a limit, no table, a table: the cases
-- exclude each other, and each says all of the outcome. The proofs are in proofs/Outcomes.antt, under the names given here.
-- Assumes nothing.
use Rattle.std.specs.Prelude.{ℕ, ◌≡◌, List}
use Rattle.form.specs.Form.{Form, Way}
use Rattle.form.specs.Answer.{Count}
use Rattle.form.specs.Writing.{WriteIs}
use Rattle.form.specs.Query.{QueryIs}

-- `one-write`: two outcomes that the promise of a write allows are one, the answer, with the record of a 4, and the output.
abbrev pub IsOneWrite : Way → Type 0
IsOneWrite way =
    (doc t o : List ℕ) (a₁ a₂ : Count) (o₁ o₂ : List ℕ) → WriteIs way doc t o a₁ o₁ → WriteIs way doc t o a₂ o₂ → (a₁ ≡ a₂) × (o₁ ≡ o₂)

-- `one-query`: two outcomes that the promise of a query allows are one, the answer and the list.
abbrev pub IsOneQuery : Form → Type 0
IsOneQuery form =
    (doc t q l : List ℕ) (a₁ a₂ : Count) (l₁ l₂ : List ℕ) → QueryIs form doc t q l a₁ l₁ → QueryIs form doc t q l a₂ l₂ → (a₁ ≡ a₂) × (l₁ ≡ l₂)
