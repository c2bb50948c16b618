-- The words of the first n lines stand in the table.
-- Assumes nothing.
use Rattle.std.proofs.Common.{length, ◌-◌, ◌*◌}
use Rattle.table_store.proofs.Taking.{Sofar}
use Rattle.table_store.proofs.take_lines.Given as goal

abbrev pub invariant-loop-n : goal.invariant-loop-n
invariant-loop-n l = Sofar l.lines l.initial.table l.table l.n

abbrev pub decreases-loop-n : goal.decreases-loop-n
decreases-loop-n l = length l.lines - 73 * l.n
