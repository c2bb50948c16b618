-- `skip_blank` meets its contract: what the definition skips from the start it skips from each place that the loop comes to.
-- Assumes nothing.
use Rattle.std.proofs.Common.{sym, ◌∙◌}
use Rattle.snbt_lexer.proofs.Slurps.{skip-more, skip_stop, skip-end}
use Rattle.snbt_lexer.proofs.characters.skip_blank.Goals as goal

pub loop-i-preserved : goal.loop-i-preserved
loop-i-preserved c = c.loop-i.invariant ∙ skip-more _ _ c.loop-i-test.true (sym c.if-is_blank.ensures)

pub returns-else-is_blank : goal.returns-else-is_blank
returns-else-is_blank c = sym (c.loop-i.invariant ∙ skip_stop _ _ c.loop-i-test.true (sym c.if-is_blank.ensures))

pub returns-after-loop-i : goal.returns-after-loop-i
returns-after-loop-i c = sym (c.loop-i.invariant ∙ skip-end _ _ c.loop-i-test.false)
