-- `due_at` meets its contract: the lexer's answer, case by case.
-- Assumes nothing.
use Rattle.std.proofs.Common.{sym}
use Rattle.snbt_tokens.specs.Answers.{stops_is}
use Rattle.snbt_due.proofs.Reading.{due-ended, due-no}
use Rattle.snbt_due.proofs.due_at.Goals as goal

pub returns-in-Err : goal.returns-in-Err
returns-in-Err g c room =
    let a = c.args in
    rw c.of.ensures (due-no a.text.now room (stops_is a.set) a.place (g.N.Number.value a.number) a.end _ _ (sym c.in-Err.ensures))

pub returns-in-Ok-Ended : goal.returns-in-Ok-Ended
returns-in-Ok-Ended g c room =
    let a = c.args in
    due-ended a.text.now room (stops_is a.set) a.place (g.N.Number.value a.number) a.end _ (sym (rw c.in-Ok-Ended.field-0-is at c.in-Ok-Ended.ensures))
