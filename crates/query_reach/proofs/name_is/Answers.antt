-- `query_reach::name_is` meets its contract: names of two lengths differ, and of one length the bytes decide.
-- Assumes nothing.
use Rattle.std.proofs.Common.{sym, ◌∙◌}
use borrow.Author.Tests.{ne_eqb}
use Rattle.query_reach.proofs.Levels.{name-alike, name-longer}
use Rattle.query_reach.proofs.name_is.Goals as goal

pub returns-then-word-len : goal.returns-then-word-len
returns-then-word-len c =
    let a = c.args in
    name-alike a.doc.now a.table.now a.q.now a.at a.len a.c (sym c.word.ensures ∙ c.if-word-len.true) c.same_bytes.result
    (rw c.word-then-word-len.ensures at c.same_bytes.ensures)

pub returns-else-word-len : goal.returns-else-word-len
returns-else-word-len c =
    let a = c.args in
    let differ = c.if-word-len.false in
    ne_eqb _ _ differ
    ∙ name-longer a.doc.now a.table.now a.q.now a.at a.len a.c (λ e. differ (c.word.ensures ∙ e)) c.requires.0 c.requires.1
