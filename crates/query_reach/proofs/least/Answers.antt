-- `query_reach::least` meets its contract: the zeros below the lowest bit are the numbers below the least.
-- Assumes nothing.
use Rattle.std.proofs.Common.{arith}
use Rattle.query_reach.proofs.Sets.{least-is}
use Rattle.query_reach.proofs.least.Goals as goal

pub returns : goal.returns
returns c = least-is 32 c.args.set c.requires (omega arith)
