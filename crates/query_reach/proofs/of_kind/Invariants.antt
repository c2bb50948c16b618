-- The steps before s are marked where their kind is one of those.
-- Assumes nothing.
use Rattle.query_reach.specs.Plans.{kind_in}
use Rattle.query_reach.proofs.Marks.{Marking}
use Rattle.query_reach.proofs.of_kind.Given as goal

abbrev pub invariant-loop-s : goal.invariant-loop-s
invariant-loop-s l = Marking (kind_in l.plan l.count l.low l.high) l.set l.s
