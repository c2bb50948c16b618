-- `table_store::put_word` meets its contract: each digit is put behind those that stand.
-- Assumes nothing.
use Rattle.std.proofs.Common.{sym, ap, ◌∙◌, set, ◌+◌, arith}
use Rattle.form.proofs.Table.{over_none}
use Rattle.table_store.proofs.Writing.{digit-behind, digits-done}
use Rattle.table_store.proofs.put_word.Goals as goal

pub loop-i-init : goal.loop-i-init
loop-i-init c = sym (over_none _ _)

pub loop-i-preserved : goal.loop-i-preserved
loop-i-preserved c =
    let l = c.loop-i in
    let a = c.args in
    ap (set l.out (a.at + l.i)) c.digit.ensures ∙ digit-behind a.out.now l.out a.at a.word l.i l.invariant (omega arith) c.requires

pub returns : goal.returns
returns c =
    let l = c.loop-i in
    let a = c.args in
    digits-done a.out.now l.out a.at a.word l.i l.invariant (omega arith)
