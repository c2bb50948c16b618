-- `table::child_agrees` meets its contract: each test is one line of what a child is.
-- Assumes nothing.
use borrow.Author.Rules.{rules}
use mathlib.Core.Path.{refl, sym, ◌∙◌}
use native.Mathlib.Omega.{arith}
use Rattle.table.proofs.Tests.{apart, says-yes, says-no, says-eqb}
use Rattle.table.proofs.child_agrees.Statement.{statement}
use Rattle.table.proofs.child_agrees.Tie as tie

returns : tie.Need-returns-then-next-j
returns c = says-no (λ is. let e = c.before.word-next.ensures in let on = is.on in let t = c.if-next-j.true in omega arith)

returns-2 : tie.Need-returns-then-end-next
returns-2 c = says-no (λ is. let e = c.before.before.word-next.ensures in let le = is.within in let t = c.if-end-next.true in omega arith)

returns-3 : tie.Need-returns-then-word-parent
returns-3 c = says-no (λ is. c.if-word-parent.true (c.before.word.ensures ∙ is.parent refl))

returns-4 : tie.Need-returns-then-not-list
returns-4 c =
    let at-parent = c.before in
    let at-end = at-parent.before.before in
    let e = at-end.before.before.word-next.ensures in
    let a = at-end.before.if-next-j.false in
    let b = at-end.if-end-next.false in
    says-yes (record {
      on = omega arith;
      within = omega arith;
      nameless = λ p. absurd (apart _ p (c.if-not-list.true));
      parent = λ _. sym at-parent.before.word.ensures ∙ at-parent.if-word-parent.false;
    })

returns-5 : tie.Need-returns-then-word-ne0
returns-5 c = says-no (λ is. c.if-word-ne0.true (c.before.word-2.ensures ∙ (is.nameless (c.before.before.if-not-list.false)).0))

returns-6 : tie.Need-returns
returns-6 c =
    let at_name = c.before in
    let at-list = at_name.before.before in
    let at-parent = at-list.before in
    let at-end = at-parent.before.before in
    let e = at-end.before.before.word-next.ensures in
    let a = at-end.before.if-next-j.false in
    let b = at-end.if-end-next.false in
    says-eqb _ _
    (λ p. record {
      on = omega arith;
      within = omega arith;
      nameless = λ _. (sym at_name.before.word-2.ensures ∙ at_name.if-word-ne0.false, sym c.word-3.ensures ∙ p);
      parent = λ _. sym at-parent.before.word.ensures ∙ at-parent.if-word-parent.false;
    })
    (λ is. c.word-3.ensures ∙ (is.nameless (at-list.if-not-list.false)).1)

pub child_agrees_spec : {M : Type 1} → statement M
child_agrees_spec =
    tie.close
    (tie.spec (λ c κs. search rules) returns returns-2 (λ c κs. search rules) returns-3 returns-4 (λ c κs. search rules) returns-5 (λ c κs. search rules) returns-6)
