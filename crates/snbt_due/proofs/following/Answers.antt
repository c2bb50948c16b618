-- `following` meets its contract: the sign in front decides; any other token is refused.
-- Assumes nothing.
use Rattle.std.proofs.Common.{arith}
use Rattle.std.proofs.lemmas.Result.{err_from_is_err_and}
use Rattle.snbt_due.proofs.Reading.{following-no}
use Rattle.snbt_due.proofs.Fronts.{front-comma, front-close, front-other}
use Rattle.snbt_due.proofs.following.Goals as goal

pub returns-then-b-eq44 : goal.returns-then-b-eq44
returns-then-b-eq44 g c =
    let p = c.peek_at-peeked in
    let a = c.args in
    front-comma a.text.now a.place p.result p.ensures c.requires.0 g.N.Number.value a.closing (g.N.Number.value a.number) a.end (omega arith)

pub returns-then-b-closing : goal.returns-then-b-closing
returns-then-b-closing g c =
    let p = c.peek_at-peeked in
    let a = c.args in
    front-close a.text.now a.place p.result p.ensures c.requires.0 g.N.Number.value a.closing (g.N.Number.value a.number) a.end c.requires.1 c.if-b-closing.true

pub returns : goal.returns
returns g c room =
    let p = c.peek_at-peeked in
    let a = c.args in
    rw c.of.ensures
    (front-other a.text.now a.place p.result p.ensures c.requires.0 g.N.Number.value a.closing (g.N.Number.value a.number) a.end c.requires.1
    (λ e. omega (arith, e)) c.if-b-closing.false _ _ c.in_ok-due_at.ensures room)

pub returns-in_err-due_at : goal.returns-in_err-due_at
returns-in_err-due_at g c =
    let a = c.args in
    let p = err_from_is_err_and c.from_residual.result c.from_residual.ensures.1 in
    rw (p.1, p.2) (λ room. following-no a.text.now room a.closing a.place (g.N.Number.value a.number) a.end _ _ (c.in_err-due_at.ensures room))
