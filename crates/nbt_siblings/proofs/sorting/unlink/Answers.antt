-- The list is walked once more.
use Rattle.std.proofs.Common.{◌≡◌, ◌+◌, ◌-◌, arith}
use Rattle.nbt_siblings.proofs.Scans.{scan-start, scan-here, scan-fits, scan-on, scan-last}
use Rattle.nbt_siblings.proofs.sorting.unlink.Goals as goal

pub loop-init : goal.loop-init
loop-init c = let e : c.args.n + 1 - 1 ≡ c.args.n = omega arith in rw e (scan-start c.requires)

pub relink-y-requires : goal.relink-y-requires
relink-y-requires c = ((scan-here c.requires c.loop.invariant).room, omega arith)

pub lower-low-requires : goal.lower-low-requires
lower-low-requires c = scan-fits c.requires c.loop.invariant (omega arith) c.relink-y.ensures.0 c.relink-y.ensures.1

pub loop-preserved : goal.loop-preserved
loop-preserved c =
    let e : c.args.n + 1 - (c.loop.counter + 1) ≡ c.args.n + 1 - c.loop.counter - 1 = omega arith in
    rw e (scan-on c.requires c.loop.invariant (omega arith) c.relink-y.ensures.0 c.relink-y.ensures.1 c.lower-low.ensures)

pub relink-requires : goal.relink-requires
relink-requires c = ((scan-here c.requires c.loop.invariant).room, omega arith)

pub returns : goal.returns
returns c = scan-last c.requires c.loop.invariant c.relink.ensures.1 (omega arith)
