-- The digits of the first k words stand in their place.
-- Assumes nothing.
use Rattle.std.proofs.Common.{◌≡◌, ◌*◌}
use Rattle.form.specs.Spans.{part, over}
use Rattle.form.specs.Stored.{word_digits}
use Rattle.table_store.proofs.put_line.Given as goal

abbrev pub invariant-loop-k : goal.invariant-loop-k
invariant-loop-k l = l.out ≡ over l.initial.out (73 * l.n) (word_digits (part l.table (9 * l.n) l.k))
