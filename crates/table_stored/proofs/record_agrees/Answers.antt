-- `table_stored::record_agrees` meets its contract: a record's kind says which of the two sorts it is.
-- Assumes nothing.
use Rattle.std.proofs.Common.{sym, ap, ◌∙◌, arith}
use Rattle.form.specs.Table.{holds}
use Rattle.table.proofs.Tests.{says-no, row-container, row-leaf}
use Rattle.table_stored.proofs.Words.{lined-word}
use Rattle.table_stored.proofs.record_agrees.Goals as goal

pub word-requires : goal.word-requires
word-requires c = lined-word _ _ _ _ 1 c.requires.1 c.requires.0 (omega arith)

pub word-requires-2 : goal.word-requires-2
word-requires-2 c = lined-word _ _ _ _ 2 c.requires.1 c.requires.0 (omega arith)

pub returns-then-not-span_fits : goal.returns-then-not-span_fits
returns-then-not-span_fits c =
    let told = rw (c.word.ensures, c.word-2.ensures) at c.span_fits.ensures in
    says-no (λ is. told.no c.if-not-span_fits.true is.name)

pub word-requires-3 : goal.word-requires-3
word-requires-3 c = lined-word _ _ _ _ 0 c.requires.1 c.requires.0 (omega arith)

pub container_agrees-requires : goal.container_agrees-requires
container_agrees-requires c =
    let kind = c.is_container.ensures ∙ ap holds c.word-3.ensures in
    (c.requires.0, c.requires.1, sym kind ∙ c.if-is_container.true)

pub returns-then-is_container : goal.returns-then-is_container
returns-then-is_container c =
    let told = rw (c.word.ensures, c.word-2.ensures) at c.span_fits.ensures in
    let r = c.container_agrees in
    row-container _ _ _ _ _ (told.yes c.if-not-span_fits.false) (sym (c.is_container.ensures ∙ ap holds c.word-3.ensures) ∙ c.if-is_container.true) r.result r.ensures

pub leaf_agrees-requires : goal.leaf_agrees-requires
leaf_agrees-requires c = c.requires.1.line _ c.requires.0

pub returns : goal.returns
returns c =
    let told = rw (c.word.ensures, c.word-2.ensures) at c.span_fits.ensures in
    let r = c.leaf_agrees in
    row-leaf _ _ _ _ _ (told.yes c.if-not-span_fits.false) (sym (c.is_container.ensures ∙ ap holds c.word-3.ensures) ∙ c.if-is_container.false) r.result r.ensures
