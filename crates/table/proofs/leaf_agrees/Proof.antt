-- `table::leaf_agrees` meets its contract: each test is one line of what such a record is.
-- Assumes nothing.
use borrow.Author.Rules.{rules}
use Prim.Native.Nat.{◌+◌, ◌*◌}
use mathlib.Core.Path.{sym, ◌∙◌}
use native.Mathlib.Omega.{arith}
use Rattle.table.proofs.Tests.{apart, says-no, says-eqb}
use Rattle.table.proofs.leaf_agrees.Statement.{statement}
use Rattle.table.proofs.leaf_agrees.Tie as tie

leaf_fits-requires : tie.Need-leaf_fits-requires
leaf_fits-requires c κs =
    let at-shared-slice-known = c.before.before.before in
    let start = at-shared-slice-known.before in
    omega (arith, c.word-2.ensures, at-shared-slice-known.shared_slice_known-1.given (9 * start.args.i + 5))

returns : tie.Need-returns-then-not-leaf_fits
returns c =
    let at-word2 = c.before.before.before in
    let at-word = at-word2.before in
    let e = rw (at-word2.word.ensures, at-word.word-len.ensures, c.before.before.word-2.ensures) at c.before.leaf_fits.ensures in
    says-no (λ is. apart _ (e ∙ is.fits) (c.if-not-leaf_fits.true))

returns-2 : tie.Need-returns-then-not-span_fits
returns-2 c =
    let at-else1 = c.before.before.before in
    let at-word2 = at-else1.before.before.before in
    let at-word = at-word2.before in
    says-no (λ is. c.before.span_fits.ensures.no (c.if-not-span_fits.true) (rw (c.before.before.word-3.ensures, at-word.word-len.ensures) is.body))

returns-3 : tie.Need-returns-then-word-ne0
returns-3 c = says-no (λ is. c.if-word-ne0.true (c.before.word-4.ensures ∙ is.plain))

returns-4 : tie.Need-returns
returns-4 c =
    let at-else2 = c.before.before.before in
    let at-span-fits = at-else2.before in
    let at-word4 = at-span-fits.before in
    let at-else1 = at-word4.before in
    let at-leaf-fits = at-else1.before in
    let at-word3 = at-leaf-fits.before in
    let at-word2 = at-word3.before in
    let at-word = at-word2.before in
    let e = rw (at-word2.word.ensures, at-word.word-len.ensures, at-word3.word-2.ensures) at at-leaf-fits.leaf_fits.ensures in
    let b = at-span-fits.span_fits.ensures.yes (at-else2.if-not-span_fits.false) in
    says-eqb _ _
    (λ p. record {
      fits = sym e ∙ at-else1.if-not-leaf_fits.false;
      body = rw (at-word4.word-3.ensures, at-word.word-len.ensures) at b;
      plain = sym c.before.before.word-4.ensures ∙ c.before.if-word-ne0.false;
      next = sym c.word-5.ensures ∙ p;
    })
    (λ is. c.word-5.ensures ∙ is.next)

pub leaf_agrees_spec : {M : Type 1} → statement M
leaf_agrees_spec =
    tie.close
    (tie.spec
    (λ c κs. search rules)
    (λ c κs. search rules)
    (λ c κs. search rules)
    leaf_fits-requires
    returns
    (λ c κs. search rules)
    (λ c κs. search rules)
    returns-2
    (λ c κs. search rules)
    returns-3
    (λ c κs. search rules)
    (λ c. search rules)
    returns-4)
