-- `query_reach::step_takes` meets its contract: each kind of step against the two kinds of level.
-- Assumes nothing.
use Rattle.std.proofs.Common.{sym, ap, ◌∙◌, arith}
use mathlib.Core.Bool.{not}
use borrow.Author.Tests.{eq-eqb, ne_eqb}
use Rattle.query_reach.proofs.Levels.{takes-name, takes-no-name, takes-index, takes-no-index, takes-any}
use Rattle.query_reach.proofs.step_takes.Goals as goal

pub returns-then-named : goal.returns-then-named
returns-then-named c =
    let a = c.args in
    takes-name a.doc.now a.table.now _ _ a.parent a.c a.index c.in-1.is (sym c.word-named.ensures ∙ c.if-named.true) c.name_is.result c.name_is.ensures

pub returns-else-named : goal.returns-else-named
returns-else-named c =
    let a = c.args in
    ne_eqb _ _ c.if-named.false
    ∙ takes-no-name a.doc.now a.table.now _ _ a.parent a.c a.index c.in-1.is (λ e. c.if-named.false (c.word-named.ensures ∙ e))

pub returns-then-not-named : goal.returns-then-not-named
returns-then-not-named c =
    let a = c.args in
    takes-index a.doc.now a.table.now _ _ a.parent a.c a.index c.in-2.is (λ e. c.if-not-named.true (c.word-named.ensures ∙ e))

pub returns-else-not-named : goal.returns-else-not-named
returns-else-not-named c =
    let a = c.args in
    ap not (eq-eqb _ _ c.if-not-named.false)
    ∙ takes-no-index a.doc.now a.table.now _ _ a.parent a.c a.index c.in-2.is (sym c.word-named.ensures ∙ c.if-not-named.false)

pub returns-in_default : goal.returns-in_default
returns-in_default c =
    let a = c.args in
    takes-any a.doc.now a.table.now _ _ a.parent a.c a.index (λ e. omega arith) (λ e. omega arith)
