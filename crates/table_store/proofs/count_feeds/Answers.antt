-- `table_store::count_feeds` meets its contract: what is counted falls away from what is still to come.
-- Assumes nothing.
use Rattle.std.proofs.Common.{arith}
use Rattle.table_store.proofs.Reading.{feeds-fed, feeds-plain, feeds-end, feeds-few}
use Rattle.table_store.proofs.count_feeds.Goals as goal
use Rattle.table_store.proofs.count_feeds.Goals.{then-b-eq10, else-b-eq10}

pub overflow_add-n : goal.overflow_add-n
overflow_add-n c =
    let s = c.args.lines.now in
    omega (arith, c.well_formed.0.1, feeds-few s, feeds-fed s c.loop-b.b-index c.loop-b-test.true c.if-b-eq10.true, c.loop-b.invariant)

pub loop-b-preserved : goal.loop-b-preserved
loop-b-preserved c =
    let s = c.args.lines.now in
    let i = c.loop-b.b-index in
    let h = c.loop-b-test.true in
    let so_far = c.loop-b.invariant in
    elim c.if-b-eq10.branch [
      | then-b-eq10 w ↦ omega (arith, so_far, w.n-is, feeds-fed s i h w.if-b-eq10.true)
      | else-b-eq10 w ↦ omega (arith, so_far, w.n-is, feeds-plain s i h w.if-b-eq10.false)
    ]

pub returns : goal.returns
returns c = omega (arith, c.loop-b.invariant, feeds-end c.args.lines.now c.loop-b.b-index c.loop-b-test.false)
