-- The claims of outcomes, from the laws of the definitions.
-- Assumes nothing.
use Prim.Native.Nat.{ℕ}
use mathlib.Core.Path.{◌≡◌, ap, sym, ◌∙◌}
use mathlib.Core.List.{List}
use Rattle.form.specs.Form.{Form, Way}
use Rattle.form.specs.Tables.{IsTable, Within}
use Rattle.form.specs.Moved.{Edition}
use Rattle.form.proofs.Outcomes as outcomes
use Rattle.form.proofs.Outcomes.{same-list, in-each-case}
use Rattle.calls.specs.Words.{count_words, beside_words}
use Rattle.calls.specs.Calls.{TableCalled, WriteCalled, WriteLinesCalled, MoveCalled, QueryCalled}
use Rattle.demands.specs.Outcomes.{IsOneWrite, IsOneQuery}
use Rattle.demands.proofs.Stored.{one-write-lines}
use Rattle.demands.proofs.Moved.{one-move}

pub one-write : (way : Way) → IsOneWrite way
one-write way = outcomes.one-write way

pub one-query : (form : Form) → IsOneQuery form
one-query form = outcomes.one-query form

-- ---- the calls whose promises go by cases

-- Two outcomes of a check of a table's words are one.
pub one-table-called : (d : ℕ) (t a₁ a₂ : List ℕ) → TableCalled d t a₁ → TableCalled d t a₂ → a₁ ≡ a₂
one-table-called d t a₁ a₂ g h =
    in-each-case {W = Within d t} {T = IsTable d t} (same-list a₁ a₂)
    (λ n. g.large n ∙ sym (h.large n))
    (λ w n. g.unfit w n ∙ sym (h.unfit w n))
    (λ w i. g.fit w i ∙ sym (h.fit w i))

-- Two outcomes of a write are one: the answer, the output and the table.
pub one-write-called : (way : Way) (doc t o a₁ a₂ o₁ o₂ t₁ t₂ : List ℕ) → WriteCalled way doc t t₁ o o₁ a₁ → WriteCalled way doc t t₂ o o₂ a₂
    → (a₁ ≡ a₂) × (o₁ ≡ o₂) × (t₁ ≡ t₂)
one-write-called way doc t o a₁ a₂ o₁ o₂ t₁ t₂ g h =
    let e = one-write way doc t o g.result h.result o₁ o₂ g.is h.is in
    (g.words_are ∙ ap beside_words e.0 ∙ sym h.words_are, e.1, g.kept ∙ sym h.kept)

-- Two outcomes of writing lines are one: the answer and the output.
pub one-write-lines-called : (d : ℕ) (t o a₁ a₂ o₁ o₂ : List ℕ) → WriteLinesCalled d t o o₁ a₁ → WriteLinesCalled d t o o₂ a₂ → (a₁ ≡ a₂) × (o₁ ≡ o₂)
one-write-lines-called d t o a₁ a₂ o₁ o₂ g h =
    let e = one-write-lines d t o g.result h.result o₁ o₂ g.is h.is in
    (g.words_are ∙ ap count_words e.0 ∙ sym h.words_are, e.1)

-- Two outcomes of a move are one: the answer and the output.
pub one-move-called : (e : Edition) (d : ℕ) (s o a₁ a₂ o₁ o₂ : List ℕ) → MoveCalled e d s o o₁ a₁ → MoveCalled e d s o o₂ a₂ → (a₁ ≡ a₂) × (o₁ ≡ o₂)
one-move-called e d s o a₁ a₂ o₁ o₂ g h =
    let q = one-move e d s o g.result h.result o₁ o₂ g.is h.is in
    (g.words_are ∙ ap count_words q.0 ∙ sym h.words_are, q.1)

-- Two outcomes of a query are one: the answer and the list.
pub one-query-called : (form : Form) (doc t q l a₁ a₂ l₁ l₂ : List ℕ) → QueryCalled form doc t q l l₁ a₁ → QueryCalled form doc t q l l₂ a₂ → (a₁ ≡ a₂) × (l₁ ≡ l₂)
one-query-called form doc t q l a₁ a₂ l₁ l₂ g h =
    let e = one-query form doc t q l g.result h.result l₁ l₂ g.is h.is in
    (g.words_are ∙ ap beside_words e.0 ∙ sym h.words_are, e.1)
