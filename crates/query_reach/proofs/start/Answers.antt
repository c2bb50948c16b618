-- `query_reach::start` meets its contract: nothing is gathered before, and no hop is left. Assumes nothing.
use Rattle.form.specs.Paths.{item}
use Rattle.query_reach.proofs.Hopping.{start-ready, start-reaches}
use Rattle.query_reach.proofs.start.Goals as goal

pub reach-requires : goal.reach-requires
reach-requires c = let p = c.requires.1 in (p.few, (_, item 0, start-ready p (item 0)))

pub returns : goal.returns
returns c = λ q p. start-reaches p (item 0) (c.reach.ensures _ (item 0) (start-ready p (item 0)))
