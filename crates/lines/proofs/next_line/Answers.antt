-- Right since a byte that is no line feed is put, or has no room.
-- Assumes nothing.
use Rattle.std.proofs.Common.{arith}
use Rattle.lines.proofs.Chunks.{sofar-next, sofar-more}
use Rattle.lines.proofs.next_line.Goals as goal
use Rattle.lines.proofs.next_line.Goals.{then-len-line, else-len-line}

pub loop-preserved : goal.loop-preserved
loop-preserved c = (
  elim c.if-len-line.branch [
    | then-len-line w ↦ rw (w.line-is, w.len-is, w.long-is) (sofar-next _ _ _ _ c.loop.invariant.0 _ w.if-len-line.true (λ e. omega arith))
    | else-len-line w ↦ rw (w.line-is, w.len-is, w.long-is) (sofar-more _ _ _ _ c.loop.invariant.0 w.if-len-line.false)
  ],
  λ h. record { order = omega arith; within = c.filled-left.ensures.within },
)
