-- `table_stored::leaf_agrees` meets its contract: each test is one line of what such a record is.
-- Assumes nothing.
use Rattle.std.proofs.Common.{sym, ◌∙◌, arith}
use Rattle.form.specs.Tables.{leaf_fits}
use Rattle.table.proofs.Tests.{apart, says-no, says-eqb}
use Rattle.table_stored.proofs.Words.{word-there, word_small, line_low}
use Rattle.table_stored.proofs.leaf_agrees.Goals as goal

pub word-len-requires : goal.word-len-requires
word-len-requires c = word-there _ _ _ 4 c.requires (omega arith)

pub word-requires : goal.word-requires
word-requires c = word-there _ _ _ 0 c.requires (omega arith)

pub word-requires-2 : goal.word-requires-2
word-requires-2 c = word-there _ _ _ 5 c.requires (omega arith)

pub leaf_fits-requires : goal.leaf_fits-requires
leaf_fits-requires c = omega (arith, c.word-2.ensures, word_small _ _ _ _ (word-there _ _ _ 5 c.requires (omega arith)))

pub returns-then-not-leaf_fits : goal.returns-then-not-leaf_fits
returns-then-not-leaf_fits c =
    let told = c.leaf_fits.ensures ∙ (λ i. leaf_fits (c.word.ensures i) (c.word-len.ensures i) (c.word-2.ensures i)) in
    says-no (λ is. apart _ (told ∙ is.fits) c.if-not-leaf_fits.true)

pub word-requires-3 : goal.word-requires-3
word-requires-3 c = word-there _ _ _ 3 c.requires (omega arith)

pub returns-then-not-span_fits : goal.returns-then-not-span_fits
returns-then-not-span_fits c =
    let told = rw (c.word-3.ensures, c.word-len.ensures) at c.span_fits.ensures in
    says-no (λ is. told.no c.if-not-span_fits.true is.body)

pub word-requires-4 : goal.word-requires-4
word-requires-4 c = word-there _ _ _ 6 c.requires (omega arith)

pub returns-then-word-ne0 : goal.returns-then-word-ne0
returns-then-word-ne0 c = says-no (λ is. c.if-word-ne0.true (c.word-4.ensures ∙ is.plain))

pub word-requires-5 : goal.word-requires-5
word-requires-5 c = word-there _ _ _ 7 c.requires (omega arith)

-- The sum is small, since a line's number is less than the number of bytes.
pub overflow_add-result : goal.overflow_add-result
overflow_add-result c = omega (arith, line_low _ _ _ c.requires)

pub returns : goal.returns
returns c =
    let fits = c.leaf_fits.ensures ∙ (λ i. leaf_fits (c.word.ensures i) (c.word-len.ensures i) (c.word-2.ensures i)) in
    let span = rw (c.word-3.ensures, c.word-len.ensures) at c.span_fits.ensures in
    says-eqb _ _
    (λ p. record {
      fits = sym fits ∙ c.if-not-leaf_fits.false;
      body = span.yes c.if-not-span_fits.false;
      plain = sym c.word-4.ensures ∙ c.if-word-ne0.false;
      next = sym c.word-5.ensures ∙ p;
    })
    (λ is. c.word-5.ensures ∙ is.next)
