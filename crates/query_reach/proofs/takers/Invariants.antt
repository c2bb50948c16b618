-- The steps that are not asked stay, and those asked before are there if they take the hop; the set of those left falls. Assumes nothing.
use Rattle.std.proofs.Common.{get_or, bit_and}
use Rattle.query_reach.specs.Levels.{hop_to}
use Rattle.query_reach.specs.Plans.{planned}
use Rattle.query_reach.proofs.Hopping.{Taking}
use Rattle.query_reach.proofs.takers.Given as goal

abbrev pub invariant-loop-rest : goal.invariant-loop-rest
invariant-loop-rest l = Taking (planned l.q l.plan) (hop_to l.doc l.table l.parent l.c l.index) l.set (bit_and l.set (get_or l.plan 1 0)) l.out l.rest

abbrev pub decreases-loop-rest : goal.decreases-loop-rest
decreases-loop-rest l = l.rest
