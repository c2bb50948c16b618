-- `table::list_kind_at` meets its contract: one case of the definition for each answer.
-- Assumes nothing.
use borrow.Author.Rules.{rules}
use mathlib.Core.Path.{sym, ◌∙◌}
use native.Mathlib.Omega.{arith}
use Prim.Native.Nat.{◌+◌}
use Rattle.form.proofs.Tables.{word-past}
use Rattle.form.proofs.Rows.{kind-other, kind-empty, kind-past, kind-first}
use Rattle.table.proofs.list_kind_at.Statement.{statement}
use Rattle.table.proofs.list_kind_at.Tie as tie

returns : tie.Need-returns-then-word-ne-LIST
returns c = kind-other _ _ (λ e. c.if-word-ne-LIST.true (c.before.word.ensures ∙ e))

returns-2 : tie.Need-returns-then-word-eq0
returns-2 c =
    kind-empty _ _ (sym c.before.before.before.word.ensures ∙ c.before.before.if-word-ne-LIST.false)
    (sym c.before.word-2.ensures ∙ c.if-word-eq0.true)

returns-3 : tie.Need-returns-then-n-i
returns-3 c =
    let at_count = c.before in
    let at-kind = at_count.before.before in
    let start = at-kind.before.before.before in
    kind-past _ _ (sym at-kind.before.word.ensures ∙ at-kind.if-word-ne-LIST.false)
    (λ e. at_count.if-word-eq0.false (at_count.before.word-2.ensures ∙ e)) (word-past start.args.table.now (start.args.i + 1) (omega arith))

returns-4 : tie.Need-returns
returns-4 c =
    let at-word2 = c.before.before.before in
    let at-else1 = at-word2.before in
    let at-word = at-else1.before in
    c.word-3.ensures
    ∙ kind-first _ _ (sym at-word.word.ensures ∙ at-else1.if-word-ne-LIST.false)
    (λ e. c.before.before.if-word-eq0.false (at-word2.word-2.ensures ∙ e))

pub list_kind_at_spec : {M : Type 1} → statement M
list_kind_at_spec =
    tie.close
    (tie.spec
    (λ c κs. search rules)
    returns
    (λ c κs. search rules)
    returns-2
    (λ c. search rules)
    returns-3
    (λ c. search rules)
    (λ c κs. search rules)
    returns-4)
