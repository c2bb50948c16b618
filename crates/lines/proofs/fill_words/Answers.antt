-- Right since each turn puts one word more.
-- Assumes nothing.
use Rattle.std.proofs.Common.{◌≡◌, min, length, ap, arith}
use mathlib.Core.Path.{◌∙◌}
use Rattle.form.specs.Spans.{over}
use Rattle.lines.specs.Buffers.{firsts}
use Rattle.lines.specs.Words.{word_at, with_words}
use Rattle.lines.proofs.Buffers.{firsts-start, firsts-put}
use Rattle.lines.proofs.fill_words.Goals as goal

pub loop-i-init : goal.loop-i-init
loop-i-init c = firsts-start _ _

pub loop-i-preserved : goal.loop-i-preserved
loop-i-preserved c = firsts-put _ _ _ _ _ c.loop-i.invariant c.word_of.ensures (omega arith)

pub returns : goal.returns
unfolding with_words
returns c =
    let a = c.args in
    let all : c.loop-i.i ≡ min a.n (length a.table.now) = omega arith in
    c.loop-i.invariant ∙ ap (λ k. over a.table.now 0 (firsts (word_at a.bytes.now) k)) all
