-- `query_reach::of_kind` meets its contract: a step is marked where its kind is one of those, and all are asked.
-- Assumes nothing.
use Rattle.std.proofs.Common.{refl, arith}
use Rattle.query_reach.proofs.Marks.{marking-start, marking-next, kind_is, marking-end}
use Rattle.query_reach.proofs.of_kind.Goals as goal

pub loop-s-init : goal.loop-s-init
loop-s-init c = marking-start refl

pub loop-s-preserved : goal.loop-s-preserved
loop-s-preserved c =
    let a = c.args in
    let l = c.loop-s in
    marking-next l.invariant (kind_is a.plan.now a.count a.low a.high l.s l.auto.s (omega arith) c.between.ensures) c.mark-set.ensures

pub returns-2 : goal.returns-2
returns-2 c =
    let a = c.args in
    let l = c.loop-s in
    let kind = kind_is a.plan.now a.count a.low a.high l.s l.auto.s (omega arith) c.between.ensures in
    marking-end a.plan.now a.count a.low a.high (marking-next l.invariant kind c.mark-set.ensures) (omega arith)
