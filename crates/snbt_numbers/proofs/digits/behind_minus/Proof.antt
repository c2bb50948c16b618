-- `digits::behind_minus` meets its contract: its two arms are the definition's.
-- Assumes nothing.
use borrow.Author.Rules.{rules}
use Rattle.snbt_numbers.proofs.digits.behind_minus.Statement.{statement}
use Rattle.snbt_numbers.proofs.digits.behind_minus.Tie as tie

pub behind_minus_spec : {M : Type 1} → statement M
behind_minus_spec = tie.close (tie.spec (λ c. search rules) (λ c. simp c.if-minus.true) (λ c. search rules))
