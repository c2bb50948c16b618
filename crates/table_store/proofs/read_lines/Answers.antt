-- `table_store::read_lines` meets its contract: lines that are all taken are counted by the records, others by their line feeds.
-- Assumes nothing.
use Rattle.std.proofs.Common.{sym, subst, arith}
use Rattle.form.specs.Stored.{ReadLinesIs}
use Rattle.table_store.proofs.Taking.{told, taken-many, too_many_lem, read_all, read_no}
use Rattle.table_store.proofs.read_lines.Goals as goal

pub returns-then-count-gt-RECORDS : goal.returns-then-count-gt-RECORDS
returns-then-count-gt-RECORDS c =
    let t = c.take_lines in
    let taken = told _ _ _ c.in-Ok.is t.ensures in
    subst (ReadLinesIs _ _ _) (sym c.clear.ensures)
    (too_many_lem _ _ t.new.table (omega (arith, c.if-count-gt-RECORDS.true, taken-many _ _ _ _ taken)) t.auto.table)

pub returns-then-count_lines-gt-RECORDS : goal.returns-then-count_lines-gt-RECORDS
returns-then-count_lines-gt-RECORDS c =
    let t = c.take_lines in
    subst (ReadLinesIs _ _ _) (sym c.clear-in-Err.ensures)
    (too_many_lem _ _ t.new.table (omega (arith, c.if-count_lines-gt-RECORDS.true, c.count_lines.ensures)) t.auto.table)

pub returns-else-count-gt-RECORDS : goal.returns-else-count-gt-RECORDS
returns-else-count-gt-RECORDS c =
    let taken = told _ _ _ c.in-Ok.is c.take_lines.ensures in
    read_all _ _ (omega (arith, c.if-count-gt-RECORDS.false, taken-many _ _ _ _ taken)) _ _ taken

pub returns-else-count_lines-gt-RECORDS : goal.returns-else-count_lines-gt-RECORDS
returns-else-count_lines-gt-RECORDS c =
    subst (ReadLinesIs _ _ _) (sym c.clear-in-Err.ensures)
    (read_no _ _ (omega (arith, c.if-count_lines-gt-RECORDS.false, c.count_lines.ensures)) _ _ _ (told _ _ _ c.in-Err.is c.take_lines.ensures))
