-- The lines of the first i records stand from 0 on.
-- Assumes nothing.
use Rattle.std.proofs.Common.{◌≡◌}
use Rattle.form.specs.Spans.{over}
use Rattle.form.specs.Stored.{lines_of}
use Rattle.table_store.proofs.put_lines.Given as goal

abbrev pub invariant-loop-i : goal.invariant-loop-i
invariant-loop-i l = l.out ≡ over l.initial.out 0 (lines_of 9 l.i l.table)
