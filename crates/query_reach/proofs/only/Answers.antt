-- `query_reach::only` meets its contract: the shift loses no bit. Assumes nothing.
use Rattle.query_reach.proofs.Sets.{one_shl}
use Rattle.query_reach.proofs.only.Goals as goal

pub returns : goal.returns
returns c = one_shl c.args.s c.requires
