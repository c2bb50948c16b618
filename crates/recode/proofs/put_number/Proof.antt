-- Right since the number that is written is the one that was read, each in the order that its form's number tells.
-- Assumes nothing.
use borrow.Author.Rules.{rules}
use Rattle.recode.proofs.Numbers.{one-put}
use Rattle.recode.proofs.put_number.Statement.{statement}
use Rattle.recode.proofs.put_number.Tie as tie

returns : tie.Need-returns
returns c =
    let at-put = c.before.before in
    let at-to = at-put.before in
    let at_Target = at-to.before in
    let at-number = at_Target.before.before in
    let at_from = at-number.before in
    let at_source = at_from.before in
    let a = at_source.before.before.before.args in
    one-put a.way _ _ a.at a.width _ _ _ _ a.out.now _ at_source.source.ensures at_from.is_pocket.ensures at-number.number_in-v.ensures.is
    at_Target.target.ensures at-to.is_pocket-2.ensures at-put.put_in.ensures

pub put_number_spec : {M : Type 1} → statement M
put_number_spec =
    tie.close
    (tie.spec
    (λ c κs. search rules)
    (λ c κs. search rules)
    (λ c κs. search rules)
    (λ c κs. search rules)
    (λ c κs. search rules)
    (λ c κs. search rules)
    (λ c. search rules)
    returns)
