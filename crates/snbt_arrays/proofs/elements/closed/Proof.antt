-- `elements::closed` meets its contract: each case of what stands last is the definition's.
-- Assumes nothing.
use borrow.Author.Rules.{rules}
use mathlib.Core.Path.{refl, ap}
use Rattle.snbt_form.specs.Text.{no_comma}
use Rattle.snbt_tokens.specs.Answers.{last_is}
use Rattle.snbt_arrays.proofs.elements.closed.Statement.{statement}
use Rattle.snbt_arrays.proofs.elements.closed.Tie as tie

pub closed_spec : {M : Type 1} → statement M
closed_spec =
    tie.close
    (tie.spec
    (λ c. search rules)
    (λ c. search rules)
    (λ c. search rules)
    (λ c. (ap (λ l. no_comma (last_is l)) c.in-None.is, refl))
    (λ c. ap (λ l. no_comma (last_is l)) c.in-Some.is))
