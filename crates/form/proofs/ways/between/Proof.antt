-- Right since each form's number is found again in that of both.
-- Assumes nothing.
use borrow.Author.Rules.{rules}
use Rattle.form.proofs.Between.{way-is}
use Rattle.form.proofs.ways.between.Statement.{statement}
use Rattle.form.proofs.ways.between.Tie as tie

returns : tie.Need-returns
returns c =
    let to = c.before.named.ensures in
    let from = c.named-2.ensures in
    let a = c.before.before.args in
    way-is c.before.named.result c.named-2.result a.to a.from from.1 from.0 to.0

pub between_spec : {M : Type 1} → statement M
between_spec =
    tie.close
    (tie.spec
    (λ c κs. search rules)
    (λ c. search rules)
    (λ c κs. search rules)
    (λ c. search rules)
    returns)
