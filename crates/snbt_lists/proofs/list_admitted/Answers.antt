-- `list_admitted` meets its contract: 7 comes before 13.
-- Assumes nothing.
use Rattle.std.proofs.Common.{arith}
use Rattle.snbt_lists.proofs.Squares.{list-deep, list_full}
use Rattle.snbt_lists.proofs.list_admitted.Goals as goal

pub returns-then-left-eq0 : goal.returns-then-left-eq0
returns-then-left-eq0 c = let a = c.args in list-deep a.left a.room a.brace.0 a.at c.if-left-eq0.true

pub returns-then-room-at : goal.returns-then-room-at
returns-then-room-at c = let a = c.args in list_full a.left a.room a.brace.0 a.at (omega arith) c.if-room-at.true
