-- `decimals::exponent_from` meets its contract: its two arms are the definition's.
-- Assumes nothing.
use borrow.Author.Rules.{rules}
use borrow.Author.Tests.{le-leb, lt-leb}
use Rattle.snbt_numbers.proofs.decimals.exponent_from.Statement.{statement}
use Rattle.snbt_numbers.proofs.decimals.exponent_from.Tie as tie

pub exponent_from_spec : {M : Type 1} → statement M
exponent_from_spec =
    tie.close
    (tie.spec
    (λ c. simp (le-leb _ _ c.if-to-ex.true))
    (λ c. search rules)
    (λ c κs. search rules)
    (λ c. simp (lt-leb _ _ c.if-to-ex.false) c.exponent_at.ensures))
