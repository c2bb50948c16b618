-- `table_store::is_line` meets its contract: a good line is known by its bytes, and bytes that begin otherwise begin with a bad one.
-- Assumes nothing.
use Rattle.std.proofs.Common.{sym, ◌∙◌, drop, subst, arith}
use Rattle.table_store.specs.Steps.{FirstLine}
use Rattle.table_store.proofs.Reading.{fed-there, unfed-line, told_line}
use Rattle.table_store.proofs.is_line.Goals as goal

pub digits_at-requires : goal.digits_at-requires
digits_at-requires c =
    let there = fed-there _ _ (sym c.fed.ensures ∙ c.if-fed.true) in
    omega (arith, there.0)

pub returns-then-fed : goal.returns-then-fed
returns-then-fed c =
    let s = c.args.lines.now in
    subst (FirstLine c.args.words (drop c.args.at s)) (sym c.digits_at.ensures)
    (told_line c.args.words s c.args.at c.requires.0 (sym c.fed.ensures ∙ c.if-fed.true))

pub returns-else-fed : goal.returns-else-fed
returns-else-fed c =
    let s = c.args.lines.now in
    subst (FirstLine c.args.words (drop c.args.at s)) (sym c.if-fed.false)
    (unfed-line c.args.words s c.args.at c.requires.0 (sym c.fed.ensures ∙ c.if-fed.false))
