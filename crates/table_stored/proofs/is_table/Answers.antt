-- `table_stored::is_table` meets its contract: the first record holds the others, and each of them agrees.
-- Assumes nothing.
use Rattle.std.proofs.Common.{sym, ◌∙◌, arith}
use Rattle.table.proofs.Tests.{says-no, says-as}
use Rattle.table_stored.proofs.Words.{word-there}
use Rattle.table_stored.proofs.is_table.Goals as goal

pub returns-then-n-eq0 : goal.returns-then-n-eq0
returns-then-n-eq0 c = says-no (λ is. omega (arith, is.some, c.if-n-eq0.true))

pub word-requires : goal.word-requires
word-requires c = word-there _ _ _ 0 (c.requires.line 0 (omega arith)) (omega arith)

pub returns-then-word-ne-COMPOUND : goal.returns-then-word-ne-COMPOUND
returns-then-word-ne-COMPOUND c = says-no (λ is. c.if-word-ne-COMPOUND.true (c.word.ensures ∙ is.compound))

pub word-requires-2 : goal.word-requires-2
word-requires-2 c = word-there _ _ _ 7 (c.requires.line 0 (omega arith)) (omega arith)

pub returns-then-word-n : goal.returns-then-word-n
returns-then-word-n c = says-no (λ is. c.if-word-n.true (c.word-2.ensures ∙ is.whole))

pub parent_agrees-requires : goal.parent_agrees-requires
parent_agrees-requires c = c.requires.line 0 (omega arith)

pub returns-then-not-parent_agrees : goal.returns-then-not-parent_agrees
returns-then-not-parent_agrees c = says-no (λ is. c.parent_agrees.ensures.no c.if-not-parent_agrees.true is.top)

pub returns : goal.returns
returns c =
    let r = c.records_agree in
    says-as r.result r.ensures
    (λ each. record {
      some = omega (arith, c.if-n-eq0.false);
      compound = sym c.word.ensures ∙ c.if-word-ne-COMPOUND.false;
      whole = sym c.word-2.ensures ∙ c.if-word-n.false;
      top = c.parent_agrees.ensures.yes c.if-not-parent_agrees.false;
      each = each;
    })
    (λ is. is.each)
