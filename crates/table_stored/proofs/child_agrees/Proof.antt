-- `table_stored::child_agrees` meets its contract: each test is one line of what a child is.
-- Assumes nothing.
use borrow.Author.Rules.{rules}
use mathlib.Core.Path.{sym, ◌∙◌}
use native.Mathlib.Omega.{arith}
use Rattle.table.proofs.Tests.{apart, says-yes, says-no, says-eqb}
use Rattle.table_stored.proofs.Words.{word-there}
use Rattle.table_stored.proofs.child_agrees.Statement.{statement}
use Rattle.table_stored.proofs.child_agrees.Tie as tie

-- Where the child's end is known to be good, from where its parent is.
abbrev end_of : tie.Else-not-parent_agrees → tie.Else-end-next
end_of c = c.before.before

-- Where the function starts, from there.
abbrev start_of : tie.Else-end-next → tie.Start
start_of c = let at_next = c.before.before in at_next.before.before

returns : tie.Need-returns-then-next-j
returns c = says-no (λ is. omega (arith, c.before.word-next.ensures, is.on, c.if-next-j.true))

returns-2 : tie.Need-returns-then-end-next
returns-2 c = says-no (λ is. omega (arith, c.before.before.word-next.ensures, is.within, c.if-end-next.true))

returns-3 : tie.Need-returns-then-not-parent_agrees
returns-3 c = says-no (λ is. c.before.parent_agrees.ensures.no (c.if-not-parent_agrees.true) is.parent)

returns-4 : tie.Need-returns-then-not-list
returns-4 c =
    let at-parent = c.before in
    let at-end = end_of at-parent in
    let e = at-end.before.before.word-next.ensures in
    says-yes (record {
      on = omega (arith, e, at-end.before.if-next-j.false);
      within = omega (arith, e, at-end.if-end-next.false);
      nameless = λ p. absurd (apart _ p (c.if-not-list.true));
      parent = at-parent.before.parent_agrees.ensures.yes (at-parent.if-not-parent_agrees.false);
    })

returns-5 : tie.Need-returns-then-word-ne0
returns-5 c = says-no (λ is. c.if-word-ne0.true (c.before.word.ensures ∙ (is.nameless (c.before.before.if-not-list.false)).0))

returns-6 : tie.Need-returns
returns-6 c =
    let at_name = c.before in
    let at-list = at_name.before.before in
    let at-parent = at-list.before in
    let at-end = end_of at-parent in
    let e = at-end.before.before.word-next.ensures in
    says-eqb _ _
    (λ p. record {
      on = omega (arith, e, at-end.before.if-next-j.false);
      within = omega (arith, e, at-end.if-end-next.false);
      nameless = λ _. (sym at_name.before.word.ensures ∙ at_name.if-word-ne0.false, sym c.word-2.ensures ∙ p);
      parent = at-parent.before.parent_agrees.ensures.yes (at-parent.if-not-parent_agrees.false);
    })
    (λ is. c.word-2.ensures ∙ (is.nameless (at-list.if-not-list.false)).1)

pub child_agrees_spec : {M : Type 1} → statement M
child_agrees_spec =
    tie.close
    (tie.spec
    (λ c κs. word-there _ _ _ 7 c.before.requires (omega arith))
    returns
    returns-2
    (λ c κs. search rules)
    returns-3
    returns-4
    (λ c κs. word-there _ _ _ 1 (start_of (end_of c.before)).requires (omega arith))
    returns-5
    (λ c κs. let at-list = c.before.before in word-there _ _ _ 2 (start_of (end_of at-list.before)).requires (omega arith))
    returns-6)
