-- `query_reach::has` meets its contract. Assumes nothing.
use Rattle.std.proofs.Common.{refl}
use Rattle.query_reach.specs.Sets.{has}
use Rattle.query_reach.proofs.has.Goals as goal

pub returns : goal.returns
returns c = unfold has in refl
