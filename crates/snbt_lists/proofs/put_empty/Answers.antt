-- `put_empty` meets its contract: the head of no elements is the whole list.
-- Assumes nothing.
use Rattle.std.proofs.Common.{arith}
use Rattle.snbt_lists.proofs.Heads.{empty-did}
use Rattle.snbt_lists.proofs.put_empty.Goals as goal

pub returns-clause-agrees : goal.returns-clause-agrees
returns-clause-agrees c = let a = c.args in empty-did a.out.now _ a.at a.next (omega arith) c.put_head.ensures
