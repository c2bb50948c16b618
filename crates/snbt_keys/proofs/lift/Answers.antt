-- `snbt_keys::lift` meets its contract: at each turn the places from i on have moved up.
-- Assumes nothing.
use Rattle.std.proofs.Common.{arith}
use Rattle.snbt_keys.proofs.Shifts.{lifting-next}
use Rattle.snbt_keys.proofs.lift.Goals as goal

pub loop-i-preserved : goal.loop-i-preserved
loop-i-preserved c = (omega arith, lifting-next _ _ _ _ _ c.loop-i.auto.i (omega arith) c.loop-i.invariant.1 (omega arith))
