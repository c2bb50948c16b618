-- `query_reach::next` meets its contract: what comes from each step of the set is gathered. Assumes nothing.
use Rattle.std.proofs.Common.{arith}
use Rattle.query_reach.proofs.Sets.{within-le}
use Rattle.query_reach.proofs.Hopping.{least-le, hopping-start, hopping-next, set-within, passed-within, steps_of, hopping-ready, hopping-end}
use Rattle.query_reach.proofs.next.Goals as goal

pub takers-taken-requires : goal.takers-taken-requires
takers-taken-requires c = let p = c.requires in let v = p.0.2 in ((p.0.0, v.plan_in, steps_of v), p.1, p.2)

pub overflow_sub-rest : goal.overflow_sub-rest
overflow_sub-rest c = within-le _ _ (passed-within c.requires.0.2)

pub loop-rest-init : goal.loop-rest-init
loop-rest-init c = hopping-start _ _ _ _ (passed-within c.requires.0.2)

-- The step whose turn it is is one of at most sixteen.
pub reach-out-requires : goal.reach-out-requires
reach-out-requires c =
    let v = c.requires.0.2 in
    let inv = c.loop-rest.invariant in
    (omega (arith, v.plan_in.few, set-within v _ (inv.within _ c.least-s.ensures.is_in)), (_, _, hopping-ready v _ c.takers-taken.ensures inv c.least-s.ensures))

pub only-rest-requires : goal.only-rest-requires
only-rest-requires c =
    let v = c.requires.0.2 in
    omega (arith, v.plan_in.few, set-within v _ (c.loop-rest.invariant.within _ c.least-s.ensures.is_in))

pub overflow_sub-rest-in-loop-rest : goal.overflow_sub-rest-in-loop-rest
overflow_sub-rest-in-loop-rest c = (least-le c.least-s.ensures c.only-rest.ensures).0

pub loop-rest-smaller : goal.loop-rest-smaller
loop-rest-smaller c = (least-le c.least-s.ensures c.only-rest.ensures).1

pub loop-rest-preserved : goal.loop-rest-preserved
loop-rest-preserved c =
    let inv = c.loop-rest.invariant in
    let ready = hopping-ready c.requires.0.2 _ c.takers-taken.ensures inv c.least-s.ensures in
    hopping-next _ _ _ _ inv c.least-s.ensures (c.reach-out.ensures _ _ ready) c.only-rest.ensures

pub returns : goal.returns
returns c = λ n p v. hopping-end v _ c.takers-taken.ensures c.loop-rest.invariant c.loop-rest-test.false
