-- Right by the order of its refusals: the text, the two places, and then what the content itself answers.
-- Assumes nothing.
use Rattle.std.proofs.Common.{sym}
use Rattle.snbt_contents.proofs.Fitted.{single-refused, single-off, single-fitted}
use Rattle.snbt_contents.proofs.content.Goals as goal

pub returns-in-Err : goal.returns-in-Err
returns-in-Err c = single-refused _ _ _ _ _ _ (sym c.in-Err.ensures)

pub returns-then-in_order : goal.returns-then-in_order
returns-then-in_order c =
    let a = c.args in
    rw (single-fitted a.text.now a.start a.end a.quoted a.out.now (sym c.in_default.ensures) (sym c.if-in_order.ensures))
    at c.put_fitted.ensures

pub returns : goal.returns
returns c =
    let a = c.args in
    single-off a.text.now a.start a.end a.quoted a.out.now (sym c.in_default.ensures) (sym c.if-in_order.ensures)
