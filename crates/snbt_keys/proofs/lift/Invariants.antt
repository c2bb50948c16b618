-- Those from i on have moved up by n.
-- Assumes nothing.
use Rattle.std.proofs.Common.{◌≤◌}
use Rattle.snbt_keys.specs.Keys.{Lifted}
use Rattle.snbt_keys.proofs.lift.Given as goal

abbrev pub invariant-loop-i : goal.invariant-loop-i
invariant-loop-i l = (l.from ≤ l.i) × Lifted l.fn.keys l.i l.to l.n l.keys
