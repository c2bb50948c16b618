-- `table_moves::moved` meets its contract: what the judgement refuses is refused, and else the lines are put.
-- Assumes nothing.
use Rattle.table_moves.proofs.Judging.{other-line, planted, moved}
use Rattle.table_moves.proofs.moved.Goals as goal

pub put-requires : goal.put-requires
put-requires c = let j = c.in_ok-n.ensures in (planted c.args.nine _ _ _ j.0, j.1)

pub returns : goal.returns
returns c =
    let j = c.in_ok-n.ensures in
    rw (c.line_in.ensures, other-line c.args.nine) (moved c.args.nine _ _ _ j.0 _ _ j.1 c.put.ensures)
