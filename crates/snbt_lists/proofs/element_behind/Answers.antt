-- `element_behind` meets its contract: what follows the element, case by case.
-- Assumes nothing.
use Rattle.std.proofs.lemmas.Result.{err_from_is_err_and}
use Rattle.snbt_lists.proofs.Elements.{element-no, element-end, element-next}
use Rattle.snbt_lists.proofs.element_behind.Goals as goal

pub returns-in_err-next : goal.returns-in_err-next
returns-in_err-next c =
    let p = err_from_is_err_and c.from_residual.result c.from_residual.ensures.1 in
    rw p.1 (element-no c.args.text.now c.args.place _ _ p.2 c.in_err-next.ensures)

pub returns-in-Comma : goal.returns-in-Comma
returns-in-Comma c = element-next c.args.text.now c.args.place _ c.in-Comma.next (rw c.in-Comma.is at c.in_ok-next.ensures)

pub returns-in-Close : goal.returns-in-Close
returns-in-Close c = element-end c.args.text.now c.args.place _ c.in-Close.next (rw c.in-Close.is at c.in_ok-next.ensures)
