-- `table_store::put_lines` meets its contract: each record's line is put behind those that stand.
-- Assumes nothing.
use Rattle.std.proofs.Common.{sym, ◌∙◌, arith}
use Rattle.form.specs.Stored.{lines_of}
use Rattle.form.proofs.Table.{over_none}
use Rattle.table_store.proofs.Writing.{line-behind}
use Rattle.table_store.proofs.put_lines.Goals as goal

pub loop-i-init : goal.loop-i-init
unfolding lines_of
loop-i-init c = sym (over_none _ _)

pub loop-i-preserved : goal.loop-i-preserved
loop-i-preserved c =
    let l = c.loop-i in
    let a = c.args in
    c.put_line.ensures ∙ line-behind 9 a.table.now l.i a.out.now l.out l.invariant (omega arith) (omega arith)
