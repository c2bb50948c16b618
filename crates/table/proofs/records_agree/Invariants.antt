-- The records before the one at hand agree.
-- Assumes nothing.
use Rattle.std.proofs.Common.{ℕ, ◌<◌, true}
use Rattle.form.specs.Table.{word}
use Rattle.form.specs.Rows.{RowIs}
use Rattle.table.proofs.records_agree.Given as goal

abbrev pub invariant-loop-i : goal.invariant-loop-i
invariant-loop-i l = (k : ℕ) → k < l.i → RowIs l.doc_len (word l.table) true l.n k
