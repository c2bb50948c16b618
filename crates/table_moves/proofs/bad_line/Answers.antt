-- `table_moves::bad_line` meets its contract: by how many lines there are.
-- Assumes nothing.
use Rattle.std.proofs.Common.{arith}
use Rattle.table_moves.proofs.Taking.{bad-many, bad-few}
use Rattle.table_moves.proofs.bad_line.Goals as goal

pub returns-then-count_lines-gt-RECORDS : goal.returns-then-count_lines-gt-RECORDS
returns-then-count_lines-gt-RECORDS c = bad-many _ _ (omega (arith, c.if-count_lines-gt-RECORDS.true, c.count_lines.ensures))

pub returns : goal.returns
returns c = bad-few _ _ (omega (arith, c.if-count_lines-gt-RECORDS.false, c.count_lines.ensures))
