use Rattle.std.proofs.Common.{get_or, set, ap, arith}
use Rattle.nbt_siblings.specs.Links.{link, linked}
use Rattle.nbt_siblings.proofs.Tables.{slot-range}
use Rattle.nbt_siblings.proofs.links.relink.Goals as goal

pub offset_bounds-table-s : goal.offset_bounds-table-s
offset_bounds-table-s c = omega (arith, c.slot-s.ensures, slot-range c.args.table.now c.args.i)

pub bounds-table-s : goal.bounds-table-s
bounds-table-s c = omega (arith, c.slot-s.ensures, slot-range c.args.table.now c.args.i)

pub offset_bounds-table-s-2 : goal.offset_bounds-table-s-2
offset_bounds-table-s-2 c = omega (arith, c.slot-s.ensures, slot-range c.args.table.now c.args.i)

pub bounds-table-s-2 : goal.bounds-table-s-2
bounds-table-s-2 c = omega (arith, c.slot-s.ensures, slot-range c.args.table.now c.args.i)

pub returns : goal.returns
unfolding link linked
returns c = (ap (λ k. get_or c.args.table.now k 0) c.slot-s.ensures, ap (λ k. set c.args.table.now k c.args.to) c.slot-s.ensures)
