-- Right since each turn puts one byte more, and both its digits are of those.
-- Assumes nothing.
use Rattle.std.proofs.Common.{ℕ, ◌+◌, ◌*◌, ◌<◌, get_or, arith}
use mathlib.Core.Path.{◌∙◌}
use Rattle.lines.specs.Digits.{digit_of}
use Rattle.lines.proofs.Buffers.{firsts-start, firsts-put}
use Rattle.lines.proofs.Digits.{digit-there, byte-is}
use Rattle.lines.proofs.put_bytes.Goals as goal

pub loop-i-init : goal.loop-i-init
loop-i-init c = firsts-start _ _

pub pair-requires : goal.pair-requires
pair-requires c =
    let a = c.args in
    let digit : (k : ℕ) → k < 2 * a.many → digit_of (get_or a.line.now k 0) < 16 =
    λ k h. digit-there a.line.now (2 * a.many) c.requires.0 k h c.requires.2 in
    (digit (2 * c.loop-i.i) (omega arith), digit (2 * c.loop-i.i + 1) (omega arith))

pub loop-i-preserved : goal.loop-i-preserved
loop-i-preserved c = firsts-put _ _ _ _ _ c.loop-i.invariant (c.pair.ensures ∙ byte-is _ _) (omega arith)
