-- `decimals::decimal_of` meets its contract: the point, and the letter behind it, are the definition's.
-- Assumes nothing.
use borrow.Author.Rules.{rules}
use mathlib.Core.Path.{◌∙◌}
use native.Mathlib.Omega.{arith}
use Rattle.snbt_numbers.proofs.Grammar.{no-point, with-point}
use Rattle.snbt_numbers.proofs.decimals.decimal_of.Statement.{statement}
use Rattle.snbt_numbers.proofs.decimals.decimal_of.Tie as tie

pub decimal_of_spec : {M : Type 1} → statement M
decimal_of_spec =
    tie.close
    (tie.spec
    (λ c κs. search rules)
    (λ c place. no-point c.args.negative place c.first_of-point.ensures c.requires.1 c.if-to-point.true)
    (λ c. search rules)
    (λ c κs. search rules)
    (λ c κs. search rules)
    (λ c place.
    c.value_of.ensures place
    ∙ with-point c.args.negative place c.first_of-point.ensures c.first_of-ex.ensures c.requires.1 (omega (arith, c.well_formed.0.1)) c.if-to-point.false))
