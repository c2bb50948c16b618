-- `table::is_table` meets its contract: the limits first, then the records one by one, which agree exactly if the words form a table.
-- Assumes nothing.
use borrow.Author.Rules.{rules}
use mathlib.Core.Path.{refl, sym, ◌∙◌}
use native.Mathlib.Omega.{arith}
use Rattle.form.proofs.Tables.{table-length}
use Rattle.form.proofs.Rows.{table-rows, rows-table}
use Rattle.std.specs.Prelude.{Ok, Err}
use Rattle.table.specs.declared.Unfit.TheVariants.{OverLimit, NoTable}
use Rattle.table.proofs.Verdicts.{verdict-is}
use Rattle.table.proofs.is_table.Statement.{statement}
use Rattle.table.proofs.is_table.Tie as tie

returns : tie.Need-returns-then-doc_len-gt-DOCUMENT
returns c =
    verdict-is _ _ (Err OverLimit) (λ w. let b = w.bytes in let t = c.if-doc_len-gt-DOCUMENT.true in omega arith)

returns-2 : tie.Need-returns-then-table
returns-2 c =
    verdict-is _ _ (Err OverLimit) (λ w. let l = w.words in let t = c.if-table.true in omega arith)

returns-3 : tie.Need-returns-then-table-n
returns-3 c =
    verdict-is _ _ (Err NoTable) (record { bytes = c.before.before.if-doc_len-gt-DOCUMENT.false; words = c.before.if-table.false }, λ t. c.if-table-n.true (omega (arith, table-length _ _ t)))

returns-4 : tie.Need-returns-then-n-eq0
returns-4 c =
    verdict-is _ _ (Err NoTable) (
      record { bytes = c.before.before.before.if-doc_len-gt-DOCUMENT.false; words = c.before.before.if-table.false },
      λ t. let l = c.before.if-table-n.false in let n = c.if-n-eq0.true in omega (arith, table-length _ _ t),
    )

returns-5 : tie.Need-returns-then-word-ne-COMPOUND
returns-5 c =
    let at_rows = c.before.before.before in
    verdict-is _ _ (Err NoTable) (
      record { bytes = at_rows.before.before.if-doc_len-gt-DOCUMENT.false; words = at_rows.before.if-table.false },
      λ t. c.if-word-ne-COMPOUND.true (c.before.word.ensures ∙ (table-rows _ _ _ at_rows.if-table-n.false t).compound),
    )

returns-6 : tie.Need-returns-then-word-n
returns-6 c =
    let at-kind = c.before.before in
    let at_rows = at-kind.before.before.before in
    verdict-is _ _ (Err NoTable) (
      record { bytes = at_rows.before.before.if-doc_len-gt-DOCUMENT.false; words = at_rows.before.if-table.false },
      λ t. c.if-word-n.true (c.before.word-2.ensures ∙ (table-rows _ _ _ at_rows.if-table-n.false t).whole),
    )

returns-7 : tie.Need-returns-then-word-ne0
returns-7 c =
    let at-end = c.before.before in
    let at-kind = at-end.before.before in
    let at_rows = at-kind.before.before.before in
    verdict-is _ _ (Err NoTable) (
      record { bytes = at_rows.before.before.if-doc_len-gt-DOCUMENT.false; words = at_rows.before.if-table.false },
      λ t. c.if-word-ne0.true (c.before.word-3.ensures ∙ (table-rows _ _ _ at_rows.if-table-n.false t).top refl),
    )

returns-8 : tie.Need-returns-then-records_agree
returns-8 c =
    let at_top = c.before.before in
    let at-end = at_top.before.before in
    let at-kind = at-end.before.before in
    let at_rows = at-kind.before.before.before in
    verdict-is _ _ (Ok tt) (
      record { bytes = at_rows.before.before.if-doc_len-gt-DOCUMENT.false; words = at_rows.before.if-table.false },
      rows-table _ _ _ at_rows.if-table-n.false (record {
        some = (let n = at-kind.before.before.if-n-eq0.false in omega arith);
        compound = sym at-kind.before.word.ensures ∙ at-kind.if-word-ne-COMPOUND.false;
        whole = sym at-end.before.word-2.ensures ∙ at-end.if-word-n.false;
        top = λ _. sym at_top.before.word-3.ensures ∙ at_top.if-word-ne0.false;
        each = c.before.records_agree.ensures.yes c.if-records_agree.true;
      }),
    )

returns-9 : tie.Need-returns
returns-9 c =
    let at_top = c.before.before in
    let at-end = at_top.before.before in
    let at-kind = at-end.before.before in
    let at_rows = at-kind.before.before.before in
    verdict-is _ _ (Err NoTable) (
      record { bytes = at_rows.before.before.if-doc_len-gt-DOCUMENT.false; words = at_rows.before.if-table.false },
      λ t. c.before.records_agree.ensures.no c.if-records_agree.false (table-rows _ _ _ at_rows.if-table-n.false t).each,
    )

pub is_table_spec : {M : Type 1} → statement M
is_table_spec =
    tie.close
    (tie.spec
    returns
    (λ c. search rules)
    returns-2
    (λ c. search rules)
    returns-3
    returns-4
    (λ c κs. search rules)
    returns-5
    (λ c κs. search rules)
    returns-6
    (λ c κs. search rules)
    returns-7
    (λ c κs. search rules)
    returns-8
    returns-9)
