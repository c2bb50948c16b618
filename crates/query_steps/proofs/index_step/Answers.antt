-- `query_steps::index_step` meets its contract: each way through the code is a law of the definition.
-- Assumes nothing.
use Rattle.std.proofs.Common.{arith}
use Rattle.query_steps.proofs.Spelling.{index_short, index_below, index-got}
use Rattle.query_steps.proofs.index_step.Goals as goal

pub returns-then-q-at-lt5 : goal.returns-then-q-at-lt5
returns-then-q-at-lt5 c form = index_short form _ _ (omega arith)

pub returns-then-index-ge2147483648 : goal.returns-then-index-ge2147483648
returns-then-index-ge2147483648 c form = index_below form _ _ (omega arith) (omega (arith, c.u32_at-index.ensures))

pub returns : goal.returns
returns c form =
    rw c.u32_at-index.ensures (index-got form _ _ c.requires.2 (omega arith) (omega (arith, c.u32_at-index.ensures, c.if-index-ge2147483648.false)))
