use Rattle.nbt_siblings.proofs.Stored.{passed_start, passed-next, cells-room, cells_fit}
use Rattle.nbt_siblings.proofs.cells.probe.Goals as goal

pub loop-k-init : goal.loop-k-init
loop-k-init c = passed_start _ _ _ _

pub cell-other-requires : goal.cell-other-requires
cell-other-requires c = cells-room _ _ _ _ c.requires.1 _ c.loop-k.auto.k c.loop-k-test.true

pub twin-requires : goal.twin-requires
twin-requires c =
    (cells_fit _ _ _ _ c.requires.1 _ c.loop-k.auto.k c.loop-k-test.true c.cell-other.ensures c.if-other-eq0.false, c.requires.0)

pub loop-k-preserved : goal.loop-k-preserved
loop-k-preserved c = passed-next _ _ _ _ _ c.cell-other.ensures c.if-other-eq0.false c.loop-k.invariant (rw c.if-twin.false at c.twin.ensures)
