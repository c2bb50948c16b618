-- `run_end` meets its contract: where the run from the start ends, the run from each place that the loop comes to does.
-- Assumes nothing.
use Rattle.std.proofs.Common.{sym, ◌∙◌}
use Rattle.snbt_lexer.proofs.Slurps.{run_more, run-stop, run-whole}
use Rattle.snbt_lexer.proofs.characters.run_end.Goals as goal

pub loop-i-preserved : goal.loop-i-preserved
loop-i-preserved c = c.loop-i.invariant ∙ run_more _ _ c.loop-i-test.true (sym c.if-is_ordinary.ensures)

pub returns-else-is_ordinary : goal.returns-else-is_ordinary
returns-else-is_ordinary c = sym (c.loop-i.invariant ∙ run-stop _ _ c.loop-i-test.true (sym c.if-is_ordinary.ensures))

pub returns-after-loop-i : goal.returns-after-loop-i
returns-after-loop-i c = sym (c.loop-i.invariant ∙ run-whole _ _ c.loop-i-test.false)
