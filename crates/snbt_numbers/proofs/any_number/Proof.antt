-- `any_number` meets its contract: a token has a point where the first one that is looked for stands before its end.
-- Assumes nothing.
use borrow.Author.Rules.{rules}
use mathlib.Core.Path.{◌∙◌}
use native.Mathlib.Nat.{le_trans}
use Rattle.snbt_numbers.proofs.Grammar.{number-found, number-lacks}
use Rattle.snbt_numbers.proofs.any_number.Statement.{statement}
use Rattle.snbt_numbers.proofs.any_number.Tie as tie

pub any_number_spec : {M : Type 1} → statement M
any_number_spec =
    tie.close
    (tie.spec
    (λ c κs. search rules)
    (λ c κs. search rules)
    (λ c.
    let a = c.args in
    c.decimal_number.ensures
    ∙ number-found a.start a.end a.start a.text.now (le_trans c.requires.0 c.requires.1) c.requires.2 c.first_of-point.ensures c.requires.0 c.requires.3 c.if-point-end.true)
    (λ c κs. search rules)
    (λ c.
    let a = c.args in
    c.whole_number.ensures
    ∙ number-lacks a.start a.end a.start a.text.now (le_trans c.requires.0 c.requires.1) c.requires.2 c.first_of-point.ensures c.requires.0 c.requires.3 c.if-point-end.false))
