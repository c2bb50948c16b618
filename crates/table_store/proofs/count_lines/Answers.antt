-- `table_store::count_lines` meets its contract: the last byte says whether the last line is ended.
-- Assumes nothing.
use Rattle.std.proofs.Common.{ap, ◌∙◌, ◌+◌, arith}
use Rattle.form.proofs.Stored.{lines-few}
use Rattle.table_store.proofs.Reading.{count_none, count-ended, count-unended}
use Rattle.table_store.proofs.count_lines.Goals as goal
use Rattle.table_store.proofs.count_lines.Goals.{then-len-eq0-via-then-len-eq0, then-len-eq0-via-else-len-eq0+then-lines-len-eq10}

pub overflow_add-result : goal.overflow_add-result
overflow_add-result c =
    let s = c.args.lines.now in
    omega (arith, c.well_formed.0.1, lines-few s, count-unended s c.if-len-eq0.false c.if-lines-len-eq10.false, c.count_feeds-n.ensures)

pub returns-then-len-eq0 : goal.returns-then-len-eq0
returns-then-len-eq0 c =
    let s = c.args.lines.now in
    elim c.then-len-eq0.branch [
      | then-len-eq0-via-then-len-eq0 w ↦ c.count_feeds-n.ensures ∙ count_none s w.if-len-eq0.true
      | then-len-eq0-via-else-len-eq0+then-lines-len-eq10 w ↦ c.count_feeds-n.ensures ∙ count-ended s w.if-len-eq0.false w.if-lines-len-eq10.true
    ]

pub returns : goal.returns
returns c =
    ap (λ n. n + 1) c.count_feeds-n.ensures ∙ count-unended c.args.lines.now c.if-len-eq0.false c.if-lines-len-eq10.false
