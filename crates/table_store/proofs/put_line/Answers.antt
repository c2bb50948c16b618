-- `table_store::put_line` meets its contract: each word's digits are put behind those that stand, and the line feed behind them all.
-- Assumes nothing.
use Rattle.std.proofs.Common.{◌≡◌, ◌*◌, sym, ◌∙◌, arith}
use Rattle.form.specs.Stored.{word_digits}
use Rattle.form.proofs.Table.{over_none}
use Rattle.table_store.proofs.Writing.{word-behind, feed-behind}
use Rattle.table_store.proofs.put_line.Goals as goal

pub loop-k-init : goal.loop-k-init
unfolding word_digits
loop-k-init c = sym (over_none _ _)

pub loop-k-preserved : goal.loop-k-preserved
loop-k-preserved c =
    let l = c.loop-k in
    let a = c.args in
    c.put_word.ensures ∙ word-behind a.table.now (9 * a.n) l.k a.out.now (73 * a.n) l.out l.invariant (omega arith) (omega arith)

pub returns : goal.returns
returns c =
    let l = c.loop-k in
    let a = c.args in
    let last : l.k ≡ 9 = omega arith in
    let all = rw last at l.invariant in
    feed-behind a.table.now (9 * a.n) 9 a.out.now (73 * a.n) l.out all (omega arith) (omega arith)
