-- Right since a backslash within quotes begins an escape, and anything else a character.
-- Assumes nothing.
use mathlib.Core.Path.{sym, ◌∙◌}
use native.Mathlib.Omega.{arith}
use borrow.Author.Rules.{rules}
use Rattle.snbt_contents.proofs.Fronts.{front-escape, front-other}
use Rattle.snbt_contents.proofs.front_at.Statement.{statement}
use Rattle.snbt_contents.proofs.front_at.Tie as tie

pub front_at_spec : {M : Type 1} → statement M
front_at_spec =
    tie.close
    (tie.spec
    (λ c. search rules)
    (λ c κs. search rules)
    (λ c κs. search rules)
    (λ c.
    let at-opens = c.before.before in
    let a = at-opens.before.before.before.args in
    c.escaped_at.ensures ∙ front-escape a.text.now a.at a.end (omega arith) (omega arith) a.quoted (sym at-opens.opens_escape.ensures ∙ c.before.if-opens_escape.true))
    (λ c κs. search rules)
    (λ c.
    let at-opens = c.before.before in
    let a = at-opens.before.before.before.args in
    c.written_at.ensures ∙ front-other a.text.now a.at a.end (omega arith) (omega arith) a.quoted (sym at-opens.opens_escape.ensures ∙ c.before.if-opens_escape.false)))
