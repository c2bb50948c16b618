use Rattle.std.proofs.Common.{sym, ◌∙◌}
use Rattle.nbt_siblings.proofs.Wiping.{blank-start, blank-next, blank-end}
use Rattle.nbt_siblings.proofs.cells.blank.Goals as goal

pub loop-k-init : goal.loop-k-init
loop-k-init c = blank-start _ _

pub loop-k-preserved : goal.loop-k-preserved
loop-k-preserved c = blank-next _ _ _ c.loop-k.invariant (sym c.cell.ensures ∙ c.if-cell-ne0.false)

pub returns : goal.returns
returns c = blank-end _ _ _ _ c.loop-k.invariant c.loop-k-test.false
