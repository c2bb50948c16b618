-- `query_reach::lay` meets its contract: the steps put, and the two sets of them. Assumes nothing.
use Rattle.query_reach.proofs.Plans.{laid}
use Rattle.query_reach.proofs.lay.Goals as goal

pub returns : goal.returns
returns c = laid c.told-plan c.put_steps.ensures c.of_kind-deeps.ensures c.of_kind-asks.ensures
