-- `table::record_agrees` meets its contract: a record's kind says which of the two sorts it is.
-- Assumes nothing.
use borrow.Author.Rules.{rules}
use mathlib.Core.Path.{sym, ◌∙◌}
use Rattle.table.proofs.Tests.{says-no, row-container, row-leaf}
use Rattle.table.proofs.record_agrees.Statement.{statement}
use Rattle.table.proofs.record_agrees.Tie as tie

returns : tie.Need-returns-then-not-span_fits
returns c =
    says-no (λ is. c.before.span_fits.ensures.no (c.if-not-span_fits.true) (rw (c.before.before.before.word.ensures, c.before.before.word-2.ensures) is.name))

container_agrees-requires : tie.Need-container_agrees-requires
container_agrees-requires c κs =
    let at-else1 = c.before.before.before in
    let at-word = at-else1.before.before.before in
    let start = at-word.before.before in
    (start.requires.0, start.requires.1, rw c.before.before.word-3.ensures at (sym c.before.is_container.ensures ∙ c.if-is_container.true))

returns-2 : tie.Need-returns-then-is_container
returns-2 c =
    let at-word3 = c.before.before.before in
    let at-else1 = at-word3.before in
    let at-span-fits = at-else1.before in
    let at-word2 = at-span-fits.before in
    let at-word = at-word2.before in
    row-container _ _ _ _ _ (rw (at-word.word.ensures, at-word2.word-2.ensures) at (at-span-fits.span_fits.ensures.yes (at-else1.if-not-span_fits.false)))
    (rw at-word3.word-3.ensures at (sym c.before.before.is_container.ensures ∙ c.before.if-is_container.true))
    c.container_agrees.result c.container_agrees.ensures

returns-3 : tie.Need-returns
returns-3 c =
    let at-word3 = c.before.before.before in
    let at-else1 = at-word3.before in
    let at-span-fits = at-else1.before in
    let at-word2 = at-span-fits.before in
    let at-word = at-word2.before in
    row-leaf _ _ _ _ _ (rw (at-word.word.ensures, at-word2.word-2.ensures) at (at-span-fits.span_fits.ensures.yes (at-else1.if-not-span_fits.false)))
    (rw at-word3.word-3.ensures at (sym c.before.before.is_container.ensures ∙ c.before.if-is_container.false))
    c.leaf_agrees.result c.leaf_agrees.ensures

pub record_agrees_spec : {M : Type 1} → statement M
record_agrees_spec =
    tie.close
    (tie.spec
    (λ c κs. search rules)
    (λ c κs. search rules)
    (λ c κs. search rules)
    returns
    (λ c κs. search rules)
    (λ c κs. search rules)
    container_agrees-requires
    returns-2
    (λ c κs. search rules)
    returns-3)
