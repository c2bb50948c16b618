-- What is gathered comes from the set, and all that comes from its steps is there but from those left; the set of those falls. Assumes nothing.
use Rattle.std.proofs.Common.{get_or, bit_and, ◌/◌}
use Rattle.query_reach.specs.Levels.{hop_to}
use Rattle.query_reach.specs.Plans.{planned}
use Rattle.query_reach.proofs.Hopping.{Hopping}
use Rattle.query_reach.proofs.next.Given as goal

abbrev pub invariant-loop-rest : goal.invariant-loop-rest
invariant-loop-rest l = Hopping (planned l.q l.plan) (hop_to l.doc l.table l.parent l.c l.index) l.set (bit_and l.set (get_or l.plan 0 0) / 2) l.out l.rest

abbrev pub decreases-loop-rest : goal.decreases-loop-rest
decreases-loop-rest l = l.rest
