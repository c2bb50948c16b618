-- The names before `low` are below the key, and the key is below those from `high` on.
use Rattle.std.proofs.Common.{◌-◌, take}
use Rattle.snbt_keys.specs.Keys.{Sides}
use Rattle.snbt_keys.proofs.halve.Given as goal

abbrev pub invariant-loop-low : goal.invariant-loop-low
invariant-loop-low l = Sides l.out l.keys l.base l.top (take l.size l.key) l.low l.high

abbrev pub decreases-loop-low : goal.decreases-loop-low
decreases-loop-low l = l.high - l.low
