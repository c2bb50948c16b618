-- `table_moves::put_up_line` meets its contract: the digits that stay, those of the parent, and the line feed, one behind the other.
-- Assumes nothing.
use Rattle.std.proofs.Common.{◌*◌, arith}
use Rattle.table_moves.proofs.Putting.{up-line}
use Rattle.table_moves.proofs.put_up_line.Goals as goal

pub returns : goal.returns
returns c = up-line _ _ (73 * c.args.i) (65 * c.args.i) c.requires.0 _ c.copy.ensures _ _ c.put_word.ensures (omega (arith, c.requires.1))
