-- Those above i have moved up by one.
-- Assumes nothing.
use Rattle.std.proofs.Common.{◌≡◌, ◌≤◌, get_or}
use Rattle.snbt_keys.specs.Keys.{put_in}
use Rattle.snbt_keys.proofs.put_in.Given as goal

abbrev pub invariant-loop-i : goal.invariant-loop-i
invariant-loop-i l = (l.index ≤ l.i) × (l.keys ≡ put_in l.fn.keys l.top l.i (get_or l.fn.keys l.i 0))
