-- `unmatched` meets its contract: the list's head, then the brace that has no match.
-- Assumes nothing.
use Rattle.snbt_lists.proofs.Squares.{list-ended}
use Rattle.snbt_lists.proofs.unmatched.Goals as goal

pub returns : goal.returns
returns c = let a = c.args in list-ended a.left a.room a.brace.0 a.at c.in_ok-list_admitted.ensures
