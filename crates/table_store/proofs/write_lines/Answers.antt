-- `table_store::write_lines` meets its contract: by the answer of the table's check, then by the room.
-- Assumes nothing.
use Rattle.table_store.proofs.Writing.{lines-full, lines-put}
use Rattle.table_store.proofs.write_lines.Goals as goal

pub returns-then-out-n : goal.returns-then-out-n
returns-then-out-n c = lines-full _ _ c.is_table.ensures.0 _ c.in_ok-is_table.was c.if-out-n.true

pub returns : goal.returns
returns c = lines-put _ _ c.is_table.ensures.0 _ c.in_ok-is_table.was c.if-out-n.false c.put_lines.ensures
