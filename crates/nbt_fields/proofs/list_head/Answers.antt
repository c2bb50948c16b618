-- The data ends in the head, or it is judged by its kind and count.
-- Assumes nothing.
use Rattle.std.proofs.Common.{sym}
use Rattle.std.proofs.lemmas.Result.{err_from_is_err_and}
use Rattle.form.proofs.Fields.{list-head-end, list-head-no}
use Rattle.nbt_fields.proofs.list_head.Goals as goal

pub returns-then-doc-at : goal.returns-then-doc-at
returns-then-doc-at c = sym (list-head-end _ _ _ c.if-doc-at.true)

pub returns-in_err-count : goal.returns-in_err-count
returns-in_err-count c = let p = err_from_is_err_and c.from_residual.result c.from_residual.ensures.1 in rw (p.1, p.2) (sym (list-head-no _ _ _ c.if-doc-at.false (sym c.in_err-count.ensures)))
