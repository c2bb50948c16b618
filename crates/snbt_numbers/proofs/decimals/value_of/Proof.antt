-- `decimals::value_of` meets its contract: each call answers one part of the definition.
-- Assumes nothing.
use borrow.Author.Rules.{rules}
use borrow.Author.Tests.{eq-eqb, ne_eqb}
use mathlib.Core.Path.{ap₂, ◌∙◌}
use Prim.Native.Nat.{ℕ, ◌+◌, ◌-◌}
use native.Mathlib.Omega.{arith}
use Rattle.snbt_numbers.specs.Rows.{combine, value_in}
use Rattle.std.specs.Prelude.{Option}
use Rattle.snbt_numbers.specs.declared.decimals.Exponent.{Exponent}
use Rattle.snbt_numbers.proofs.decimals.value_of.Statement.{statement}
use Rattle.snbt_numbers.proofs.decimals.value_of.Tie as tie

pub value_of_spec : {M : Type 1} → statement M
value_of_spec =
    tie.close
    (tie.spec
    (λ c. search rules)
    (λ c. search rules)
    (λ c. search rules)
    (λ c. search rules)
    (λ c. unfold value_in in λ place. simp (eq-eqb _ _ c.if-point-from-eq0.true))
    (λ c κs. search rules)
    (λ c κs. search rules)
    (λ c κs. omega (arith, c.well_formed.0.1, c.requires))
    (λ c. unfold value_in in λ place.
    let a = c.args in
    simp (ne_eqb _ _ c.if-point-from-eq0.false)
    (c.combined.ensures place
    ∙ ap₂ (λ (m : Option ℕ) (x : Option Exponent). combine a.negative (a.ex - (a.point + 1)) m x place) c.mantissa-m.ensures c.exponent_from-x.ensures)))
