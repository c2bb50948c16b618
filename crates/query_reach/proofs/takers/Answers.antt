-- `query_reach::takers` meets its contract: each step that is asked is in the answer if it takes the hop. Assumes nothing.
use Rattle.std.proofs.Common.{◌∙◌}
use Rattle.query_reach.specs.Levels.{hop_to}
use Rattle.query_reach.specs.Plans.{planned}
use Rattle.query_reach.proofs.Sets.{within-le}
use Rattle.query_reach.proofs.Hopping.{taking-start, taking-next, taking-end, within_both, least-le, asked-step, asked-name, takes_at_lem}
use Rattle.query_reach.proofs.takers.Goals as goal

pub overflow_sub-out : goal.overflow_sub-out
overflow_sub-out c = within-le _ _ (within_both _ _)

pub loop-rest-init : goal.loop-rest-init
loop-rest-init c = taking-start _ _ _ _ (within_both _ _)

pub step_takes-requires : goal.step_takes-requires
step_takes-requires c =
    let p = c.requires in
    ((asked-step p.0.1 p.0.2 c.loop-rest.invariant c.least-s.ensures).1, asked-name p.0.1 p.0.2 c.loop-rest.invariant c.least-s.ensures, p.1, p.2)

pub mark-out-requires : goal.mark-out-requires
mark-out-requires c = let p = c.requires.0 in (asked-step p.1 p.2 c.loop-rest.invariant c.least-s.ensures).1

pub only-rest-requires : goal.only-rest-requires
only-rest-requires c = let p = c.requires.0 in (asked-step p.1 p.2 c.loop-rest.invariant c.least-s.ensures).1

pub overflow_sub-rest : goal.overflow_sub-rest
overflow_sub-rest c = (least-le c.least-s.ensures c.only-rest.ensures).0

pub loop-rest-smaller : goal.loop-rest-smaller
loop-rest-smaller c = (least-le c.least-s.ensures c.only-rest.ensures).1

pub loop-rest-preserved : goal.loop-rest-preserved
loop-rest-preserved c =
    let a = c.args in
    let p = c.requires.0 in
    let hop = hop_to a.doc.now a.table.now a.parent a.c a.index in
    let asked = asked-step p.1 p.2 c.loop-rest.invariant c.least-s.ensures in
    let takes = c.step_takes.ensures ∙ takes_at_lem (planned a.q.now a.plan.now) hop _ asked.0 in
    taking-next _ _ _ _ c.loop-rest.invariant c.least-s.ensures takes c.mark-out.ensures c.only-rest.ensures

pub returns : goal.returns
returns c = let p = c.requires.0 in taking-end p.1 p.2 c.loop-rest.invariant c.loop-rest-test.false
