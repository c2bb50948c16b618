-- The steps before s stand.
-- Assumes nothing.
use Rattle.query_reach.proofs.Plans.{Putting}
use Rattle.query_reach.proofs.put_steps.Given as goal

abbrev pub invariant-loop-s : goal.invariant-loop-s
invariant-loop-s l = Putting l.query l.initial.plan l.plan l.s
