-- `lesser` meets its contract.
-- Assumes nothing.
use borrow.Author.Rules.{rules}
use native.Mathlib.Omega.{arith}
use Rattle.nbt_siblings.proofs.Halves.{lesser-first, lesser-left, lesser-right}
use Rattle.nbt_siblings.proofs.cells.lesser.Statement.{statement}
use Rattle.nbt_siblings.proofs.cells.lesser.Tie as tie

pub lesser_spec : {M : Type 1} → statement M
lesser_spec =
    tie.close
    (tie.spec
    (λ c. search rules)
    (λ c. search rules)
    (λ c. search rules)
    (λ c. search rules)
    (λ c. search rules)
    (λ c. search rules)
    (λ c. search rules)
    (λ c. search rules)
    (λ c. search rules)
    (λ c. lesser-first _ _ _ c.in-At.is c.in-Nothing-b.is)
    (λ c. lesser-left _ _ _ _ c.in-At.is c.in-At-b.is (omega arith))
    (λ c. lesser-right _ _ _ _ c.in-At.is c.in-At-b.is (omega arith)))
