-- Right by the rule of the form, which is told by the test of it.
-- Assumes nothing.
use mathlib.Core.Path.{sym, ◌∙◌}
use borrow.Author.Rules.{rules}
use Rattle.chars.proofs.length_in.Statement.{statement}
use Rattle.chars.proofs.length_in.Tie as tie

returns : tie.Need-returns-then-is_pocket
returns c =
    let at_test = c.before.before in
    rw (sym at_test.is_pocket.ensures ∙ c.before.if-is_pocket.true) c.utf8_length_of.ensures

returns-2 : tie.Need-returns
returns-2 c =
    let at_test = c.before.before in
    rw (sym at_test.is_pocket.ensures ∙ c.before.if-is_pocket.false) c.length_of.ensures

pub length_in_spec : {M : Type 1} → statement M
length_in_spec =
    tie.close
    (tie.spec
    (λ c κs. search rules)
    (λ c κs. search rules)
    returns
    (λ c κs. search rules)
    returns-2)
