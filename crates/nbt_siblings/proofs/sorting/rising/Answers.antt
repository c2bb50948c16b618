use Rattle.std.proofs.Common.{arith}
use Rattle.nbt_siblings.proofs.Places.{place-fit, place-on, trying-end}
use Rattle.nbt_siblings.proofs.Ascents.{climbing-start, climbing-fits, climbing-next}
use Rattle.nbt_siblings.proofs.sorting.rising.Goals as goal

pub loop-i-init : goal.loop-i-init
loop-i-init c = climbing-start c.requires

pub word-next-requires : goal.word-next-requires
word-next-requires c = ((place-fit c.requires c.loop-i.invariant.tried.place c.loop-i-test.true).room, omega arith)

pub climbs-requires : goal.climbs-requires
climbs-requires c =
    let i = c.loop-i.invariant in
    (place-fit c.requires i.tried.place c.loop-i-test.true, climbing-fits c.requires i c.loop-i-test.true _ c.word-next.ensures)

pub loop-i-smaller : goal.loop-i-smaller
loop-i-smaller c =
    omega (arith, c.word-next.ensures, place-on c.requires c.loop-i.invariant.tried.place c.loop-i-test.true, c.loop-i-test.true)

pub loop-i-preserved : goal.loop-i-preserved
loop-i-preserved c =
    climbing-next c.requires c.loop-i.invariant c.loop-i-test.true _ c.word-next.ensures (rw c.if-not-climbs.false at c.climbs.ensures)

pub returns : goal.returns
returns c = trying-end c.loop-i.invariant.tried c.loop-i-test.false
