-- `table_moves::judge` meets its contract: each refusal in its turn.
-- Assumes nothing.
use Rattle.std.proofs.Common.{◌*◌, ◌≤◌, ◌<◌, subst, ◌∙◌}
use Rattle.std.proofs.lemmas.Result.{err_from_is_err_and}
use Rattle.table_moves.proofs.Judging.{other-line, judged-large, judged-bad, judged-unfit, judged-full, judged-fit}
use Rattle.table_moves.proofs.judge.Goals as goal

pub returns-then-doc_len-gt-DOCUMENT : goal.returns-then-doc_len-gt-DOCUMENT
returns-then-doc_len-gt-DOCUMENT c = judged-large c.args.nine _ _ _ c.if-doc_len-gt-DOCUMENT.true

pub returns-in_err-n : goal.returns-in_err-n
returns-in_err-n c =
    let p = err_from_is_err_and c.from_residual.result c.from_residual.ensures.1 in
    rw (p.1, p.2) (judged-bad c.args.nine _ _ _ c.if-doc_len-gt-DOCUMENT.false _ _ c.in_err-n.ensures)

pub returns-then-not-is_table : goal.returns-then-not-is_table
returns-then-not-is_table c =
    judged-unfit c.args.nine _ _ _ c.if-doc_len-gt-DOCUMENT.false _ c.in_ok-n.ensures (c.is_table.ensures.no c.if-not-is_table.true)

pub returns-then-room-line_in : goal.returns-then-room-line_in
returns-then-room-line_in c =
    judged-full c.args.nine _ _ _ c.if-doc_len-gt-DOCUMENT.false _ c.in_ok-n.ensures (c.is_table.ensures.yes c.if-not-is_table.false)
    (subst (λ x. c.args.room < x * c.in_ok-n.n) (c.line_in.ensures ∙ other-line c.args.nine) c.if-room-line_in.true)

pub returns : goal.returns
returns c =
    judged-fit c.args.nine _ _ _ c.if-doc_len-gt-DOCUMENT.false _ c.in_ok-n.ensures (c.is_table.ensures.yes c.if-not-is_table.false)
    (subst (λ x. x * c.in_ok-n.n ≤ c.args.room) (c.line_in.ensures ∙ other-line c.args.nine) c.if-room-line_in.false)
