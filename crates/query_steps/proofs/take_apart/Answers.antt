-- `query_steps::take_apart` meets its contract: each turn takes a step, and each way out is a law of the definition.
-- Assumes nothing.
use Rattle.std.proofs.Common.{ap, arith}
use Rattle.query_steps.specs.declared.Query.{Query}
use Rattle.query_steps.proofs.Turns.{turn-none, turn_more, turn-after, turn-bad, turn_many, turn_last}
use Rattle.query_steps.proofs.take_apart.Goals as goal

pub loop-at-init : goal.loop-at-init
loop-at-init c = turn-none _ _ _ (ap (λ (x : Query). x.steps) c.no_query-query.ensures) (ap (λ (x : Query). x.count) c.no_query-query.ensures)

pub returns-then-count-ge-STEPS : goal.returns-then-count-ge-STEPS
returns-then-count-ge-STEPS c = turn_many _ _ _ _ c.loop-at.invariant c.loop-at-test.true c.if-count-ge-STEPS.true

pub returns-in_default : goal.returns-in_default
returns-in_default c =
    turn-bad _ _ _ _ c.loop-at.invariant c.loop-at-test.true c.if-count-ge-STEPS.false c.one_step.result c.one_step.ensures c.in_default.is

pub loop-at-preserved : goal.loop-at-preserved
loop-at-preserved c =
    turn_more _ _ _ _ c.loop-at.invariant c.loop-at-test.true c.if-count-ge-STEPS.false c.one_step.result _ c.one_step.ensures c.in-Some.is

pub loop-at-smaller : goal.loop-at-smaller
loop-at-smaller c =
    omega (arith, turn-after _ _ _ _ c.loop-at.invariant c.loop-at-test.true c.one_step.result _ c.one_step.ensures c.in-Some.is)

pub returns : goal.returns
returns c = turn_last _ _ _ _ c.loop-at.invariant c.loop-at-test.false
