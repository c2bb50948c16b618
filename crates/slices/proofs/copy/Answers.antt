-- `slices::copy` meets its contract: each turn copies one byte more.
-- Assumes nothing.
use Rattle.std.proofs.Common.{arith, sym}
use Rattle.form.proofs.Table.{over_none}
use Rattle.slices.proofs.Copies.{copy_more}
use Rattle.slices.proofs.copy.Goals as goal

pub loop-i-init : goal.loop-i-init
loop-i-init c = sym (over_none _ _)

pub loop-i-preserved : goal.loop-i-preserved
loop-i-preserved c =
    let a = c.args in
    copy_more a.from.now a.out.now c.loop-i.out a.start a.at c.loop-i.i c.loop-i.invariant (omega arith) (omega arith)
