-- `snbt_keys::put_in` meets its contract: at each turn those above i have moved up by one, and the new one comes in the place of the first.
-- Assumes nothing.
use Rattle.std.proofs.Common.{arith}
use Rattle.snbt_keys.proofs.Shifts.{put-start, moved-next, moved-end}
use Rattle.snbt_keys.proofs.put_in.Goals as goal

pub loop-i-init : goal.loop-i-init
loop-i-init c = (omega arith, put-start _ _ c.requires.1)

pub loop-i-preserved : goal.loop-i-preserved
loop-i-preserved c = (omega arith, moved-next _ _ _ _ c.requires.1 c.loop-i.auto.i c.loop-i.invariant.1 (omega arith))

pub returns : goal.returns
returns c = moved-end _ _ _ _ c.requires.1 c.loop-i.auto.i c.loop-i.invariant.1 _ _ c.loop-i.invariant.0 c.loop-i-test.false
