-- `word_key` meets its contract: what was tested makes a word with its colon.
-- Assumes nothing.
use Rattle.std.proofs.Common.{ℕ, sym, subst, arith}
use Rattle.snbt_lexer.proofs.Slurps.{Run, run_is}
use Rattle.snbt_entries.proofs.Words.{word-ends}
use Rattle.snbt_entries.proofs.word_key.Goals as goal

pub overflow_sub-end : goal.overflow_sub-end
overflow_sub-end c =
    let a = c.args in
    let run = subst (λ (j : ℕ). Run a.text.now a.i j) (sym c.run_end-end.ensures) (run_is a.text.now a.i (omega arith)) in
    omega (arith, run.low)

pub returns : goal.returns
returns c =
    let a = c.args in
    let run = subst (λ (j : ℕ). Run a.text.now a.i j) (sym c.run_end-end.ensures) (run_is a.text.now a.i (omega arith)) in
    word-ends a.text.now a.i c.run_end-end.result c.if-text-i-lt60.false run c.if-text-end.false c.if-text-end-ne58.false (omega arith)
