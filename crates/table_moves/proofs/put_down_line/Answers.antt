-- `table_moves::put_down_line` meets its contract: the digits that stay, and the line feed behind them.
-- Assumes nothing.
use Rattle.std.proofs.Common.{◌*◌, arith}
use Rattle.table_moves.proofs.Putting.{down-line}
use Rattle.table_moves.proofs.put_down_line.Goals as goal

pub returns : goal.returns
returns c = down-line _ _ (65 * c.args.i) (73 * c.args.i) c.requires.0 _ c.copy.ensures (omega (arith, c.requires.1))
