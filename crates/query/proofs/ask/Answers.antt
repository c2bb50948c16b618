-- `query::ask` meets its contract: each refusal in rule 9's order, then the list filled.
-- Assumes nothing.
use Rattle.std.proofs.Common.{arith}
use Rattle.std.proofs.lemmas.Result.{err_from_is_err_and}
use Rattle.form.specs.Form.{form_no}
use Rattle.query.proofs.Finds.{table-side, table-fine, finds-deep, finds-bad, finds-short, room-counted, room-each, finds-full}
use Rattle.query.proofs.ask.Goals as goal
use Rattle.query.proofs.ask.Goals.{then-list-table+else-list-count, else-list-table}

pub first_deep-requires : goal.first_deep-requires
first_deep-requires c = ((_, table-side _ _ c.requires.0), omega arith)

pub returns-in_err-first_deep : goal.returns-in_err-first_deep
returns-in_err-first_deep c =
    let a = c.args in
    let p = err_from_is_err_and c.from_residual.result c.from_residual.ensures.1 in
    λ i. rw (p.1, p.2) (finds-deep (form_no a.form) a.doc.now a.q.now a.table.now i _ _ (c.in_err-first_deep.ensures _ (table-side _ _ i)))

pub returns-in_err-query : goal.returns-in_err-query
returns-in_err-query c =
    let a = c.args in
    let fine = table-fine _ _ c.first_deep.result c.first_deep.ensures c.in_ok-first_deep.was in
    let p = err_from_is_err_and c.from_residual-in_err-query.result c.from_residual-in_err-query.ensures.1 in
    λ i. rw (p.1, p.2) (finds-bad (form_no a.form) a.doc.now a.q.now a.table.now i (fine i) _ _ c.in_err-query.ensures)

pub walk-count-requires : goal.walk-count-requires
walk-count-requires c =
    let fine = table-fine _ _ c.first_deep.result c.first_deep.ensures c.in_ok-first_deep.was in
    ((c.requires.0, fine c.requires.0), c.requires.1, c.in_ok-query.ensures.safe)

pub returns-then-list-count : goal.returns-then-list-count
returns-then-list-count c =
    let a = c.args in
    let fine = table-fine _ _ c.first_deep.result c.first_deep.ensures c.in_ok-first_deep.was in
    λ i. finds-short (form_no a.form) a.doc.now a.q.now a.table.now i (fine i) _ c.in_ok-query.ensures _ (c.walk-count.ensures _ i) c.if-list-count.true

pub walk-requires : goal.walk-requires
walk-requires c =
    let fine = table-fine _ _ c.first_deep.result c.first_deep.ensures c.in_ok-first_deep.was in
    ((c.requires.0, fine c.requires.0), c.requires.1, c.in_ok-query.ensures.safe)

pub returns : goal.returns
returns c =
    let a = c.args in
    let fine = table-fine _ _ c.first_deep.result c.first_deep.ensures c.in_ok-first_deep.was in
    λ i. finds-full (form_no a.form) a.doc.now a.q.now a.table.now i (fine i) _ c.in_ok-query.ensures _
    (elim c.if-list-table.branch [
      | then-list-table+else-list-count w ↦ room-counted (w.walk-count.ensures (form_no a.form) i) w.if-list-count.false
      | else-list-table w ↦ room-each (form_no a.form) a.doc.now _ i _ w.if-list-table.false
    ])
    (c.walk.ensures _ i)
