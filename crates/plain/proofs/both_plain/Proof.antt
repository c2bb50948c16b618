-- Right since the two runs overlap or meet.
-- Assumes nothing.
use Rattle.std.proofs.Common.{sym, ◌∙◌, arith, rules}
use Rattle.plain.proofs.Plains.{both-in, first-fails}
use Rattle.plain.proofs.both_plain.Statement.{statement}
use Rattle.plain.proofs.both_plain.Tie as tie

returns : tie.Need-returns-then-all_plain
returns c =
    let at_first = c.before.before in
    let a = at_first.before.before.args in
    c.all_plain-then-all_plain.ensures ∙ both-in a.p a.p a.text.now a.n (omega arith) (omega arith) (sym at_first.all_plain.ensures ∙ c.before.if-all_plain.true)

returns-2 : tie.Need-returns
returns-2 c =
    let at_first = c.before in
    let a = at_first.before.before.args in
    first-fails a.p a.p a.text.now a.n (omega arith) (omega arith) (sym at_first.all_plain.ensures ∙ c.if-all_plain.false)

pub both_plain_spec : {M : Type 1} → statement M
both_plain_spec =
    tie.close
    (tie.spec
    (λ c κs. search rules)  -- all-plain-requires
    (λ c. search rules)  -- sub-all-plain
    (λ c κs. search rules)  -- all-plain-requires-2
    returns
    returns-2)
