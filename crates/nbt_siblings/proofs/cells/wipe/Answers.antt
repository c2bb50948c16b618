use Rattle.std.proofs.Common.{arith}
use Rattle.nbt_siblings.proofs.Wiping.{wiped-start, wiped-next}
use Rattle.nbt_siblings.proofs.cells.wipe.Goals as goal

pub loop-k-init : goal.loop-k-init
loop-k-init c = wiped-start _ _

pub loop-k-preserved : goal.loop-k-preserved
loop-k-preserved c = wiped-next c.loop-k.invariant c.loop-k.auto.k (omega arith) c.relink.ensures.1
