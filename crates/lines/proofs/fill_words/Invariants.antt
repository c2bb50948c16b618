-- The first i words stand at the front of the table.
-- Assumes nothing.
use Rattle.std.proofs.Common.{◌≡◌}
use Rattle.form.specs.Spans.{over}
use Rattle.lines.specs.Buffers.{firsts}
use Rattle.lines.specs.Words.{word_at}
use Rattle.lines.proofs.fill_words.Given as goal

abbrev pub invariant-loop-i : goal.invariant-loop-i
invariant-loop-i l = l.table ≡ over l.fn.table 0 (firsts (word_at l.bytes) l.i)
