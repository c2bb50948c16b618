use Rattle.std.proofs.Common.{get_or, ap, arith}
use Rattle.nbt_siblings.specs.Links.{link}
use Rattle.nbt_siblings.proofs.Tables.{slot-range}
use Rattle.nbt_siblings.proofs.links.cell.Goals as goal

pub offset_bounds-table-slot : goal.offset_bounds-table-slot
offset_bounds-table-slot c = omega (arith, c.slot.ensures, slot-range c.args.table.now c.args.i)

pub bounds-table-slot : goal.bounds-table-slot
bounds-table-slot c = omega (arith, c.slot.ensures, slot-range c.args.table.now c.args.i)

pub returns : goal.returns
unfolding link
returns c = ap (λ k. get_or c.args.table.now k 0) c.slot.ensures
