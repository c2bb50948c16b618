-- `word_at` meets its contract: a run that a stop character ends is the token, and any other way is `word_from`'s.
-- Assumes nothing.
use Rattle.std.proofs.Common.{◌+◌, arith, sym}
use Rattle.snbt_tokens.specs.Answers.{stops_is}
use Rattle.snbt_lexer.proofs.Slurps.{Run, run_is, word-run}
use Rattle.snbt_lexer.proofs.words.word_at.Goals as goal

pub overflow_sub-result : goal.overflow_sub-result
overflow_sub-result c =
    let a = c.args in
    let run : Run a.text.now (a.start + 1) c.run_end-end.result = rw c.run_end-end.ensures (run_is a.text.now (a.start + 1) (omega arith)) in
    omega (arith, run.low)

pub returns-then-is_stop : goal.returns-then-is_stop
returns-then-is_stop c =
    let a = c.args in
    let run : Run a.text.now (a.start + 1) c.run_end-end.result = rw c.run_end-end.ensures (run_is a.text.now (a.start + 1) (omega arith)) in
    word-run (stops_is a.set) a.text.now a.start _ run c.if-end-text.true (sym c.if-is_stop.ensures)
