-- The records before the one at hand agree.
-- Assumes nothing.
use Rattle.std.proofs.Common.{ℕ, ◌<◌}
use Rattle.form.specs.Rows.{RowIs}
use Rattle.table_stored.specs.Words.{edition_of, line_word}
use Rattle.table_stored.proofs.records_agree.Given as goal

abbrev pub invariant-loop-i : goal.invariant-loop-i
invariant-loop-i l = (k : ℕ) → k < l.i → RowIs l.doc_len (line_word (edition_of l.nine) l.lines) l.nine l.n k
