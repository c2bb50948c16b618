-- Right since behind the blocks each turn passes one plain byte more.
-- Assumes nothing.
use Rattle.std.proofs.Common.{arith}
use Rattle.plain.proofs.Plains.{plain_more, zero_is}
use Rattle.plain.proofs.plain_from.Goals as goal

pub loop-i-preserved : goal.loop-i-preserved
loop-i-preserved c = plain_more _ _ _ _ _ c.loop-i.invariant (zero_is _ _ _ _ c.unplain.ensures (omega arith))
