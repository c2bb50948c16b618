-- Right since each turn passes one plain block more.
-- Assumes nothing.
use Rattle.std.proofs.Common.{sym, arith}
use mathlib.Core.Path.{◌∙◌}
use Rattle.plain.proofs.Plains.{plain-join, run_is}
use Rattle.plain.proofs.plain_blocks.Goals as goal

pub loop-i-preserved : goal.loop-i-preserved
loop-i-preserved c =
    let block = run_is _ _ _ _ 16 (sym c.all_plain.ensures ∙ c.if-all_plain.true) in
    record { on = omega arith; within = omega arith; plain = plain-join _ _ _ _ _ _ _ (omega arith) c.loop-i.invariant.plain block }
