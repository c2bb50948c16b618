-- `table_store::fed` meets its contract: past the end there is no line feed.
-- Assumes nothing.
use Rattle.std.proofs.Common.{◌∙◌}
use borrow.Author.Tests.{le-ltb}
use Rattle.table_store.proofs.Reading.{fed-past, fed-byte}
use Rattle.table_store.proofs.fed.Goals as goal

pub returns-then-at-lines : goal.returns-then-at-lines
returns-then-at-lines c = fed-byte _ _ c.if-at-lines.true

pub returns-else-at-lines : goal.returns-else-at-lines
returns-else-at-lines c = le-ltb _ _ c.if-at-lines.false ∙ fed-past _ _ c.if-at-lines.false
