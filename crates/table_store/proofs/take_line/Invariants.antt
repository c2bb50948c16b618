-- The first k words of the line stand in the record, and the rest of the table is as it was.
-- Assumes nothing.
use Rattle.std.proofs.Common.{◌≡◌, ◌*◌}
use Rattle.form.specs.Spans.{part, over}
use Rattle.form.specs.Stored.{words_of}
use Rattle.table_store.proofs.take_line.Given as goal

abbrev pub invariant-loop-k : goal.invariant-loop-k
invariant-loop-k l = l.table ≡ over l.initial.table (9 * l.n) (words_of l.k (part l.lines (73 * l.n) 72))
