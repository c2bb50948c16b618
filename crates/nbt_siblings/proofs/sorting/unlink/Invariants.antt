-- The records from `x` on are left: `n` of them at first, and one less with each turn.
use Rattle.std.proofs.Common.{◌+◌, ◌-◌}
use Rattle.nbt_siblings.proofs.Scans.{Scan}
use Rattle.nbt_siblings.proofs.sorting.unlink.Given as goal

abbrev pub invariant-loop : goal.invariant-loop
invariant-loop l = Scan l.doc l.initial.table l.head l.n l.none l.table l.x (l.n + 1 - l.counter) l.low
