-- `quoted_found` meets its contract: the span that rule 12 gives, or its refusal.
-- Assumes nothing.
use Rattle.std.proofs.Common.{ap, arith}
use Rattle.std.proofs.lemmas.Result.{err_from_is_err_and}
use Rattle.form.specs.Answer.{got}
use Rattle.snbt_lexer.proofs.Finds.{closed-within, quoted-closed, quoted-refused}
use Rattle.snbt_lexer.proofs.quoted_found.Goals as goal

pub returns-in_err-q : goal.returns-in_err-q
returns-in_err-q c =
    let p = err_from_is_err_and c.from_residual.result c.from_residual.ensures.1 in
    rw (p.1, p.2) (quoted-refused c.args.text.now c.args.i c.quoted_at.result c.quoted_at.ensures c.in_err-q.field-0.0 c.in_err-q.was)

pub overflow_add-q : goal.overflow_add-q
overflow_add-q c = omega (arith, closed-within c.args.text.now c.args.i c.quoted_at.result c.quoted_at.ensures c.in_ok-q.q c.requires c.in_ok-q.was)

pub returns : goal.returns
returns c = quoted-closed c.args.text.now c.args.i c.quoted_at.result c.quoted_at.ensures c.in_ok-q.q _ c.in_ok-q.was (ap got c.found.ensures)
