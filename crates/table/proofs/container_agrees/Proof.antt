-- `table::container_agrees` meets its contract: each test is one line of what a container is, and the hops are its children.
-- Assumes nothing.
use borrow.Author.Rules.{rules}
use mathlib.Core.Path.{sym, ◌∙◌}
use native.Mathlib.Omega.{arith}
use Rattle.table.proofs.Tests.{says-no, container-all, container-broken, container-on}
use Rattle.table.proofs.container_agrees.Statement.{statement}
use Rattle.table.proofs.container_agrees.Tie as tie

returns : tie.Need-returns-then-word-ne0
returns c = says-no (λ is. c.if-word-ne0.true (c.before.word.ensures ∙ is.start))

returns-2 : tie.Need-returns-then-word-ne0-2
returns-2 c = says-no (λ is. c.if-word-ne0-2.true (c.before.word-2.ensures ∙ is.long))

returns-3 : tie.Need-returns-then-word-list_kind_at
returns-3 c = says-no (λ is. c.if-word-list_kind_at.true (c.before.before.word-3.ensures ∙ is.listed ∙ sym c.before.list_kind_at.ensures))

returns-4 : tie.Need-returns-then-end-i
returns-4 c = says-no (λ is. let e = c.before.word-end.ensures in let on = container-on _ _ _ _ is in let t = c.if-end-i.true in omega arith)

returns-5 : tie.Need-returns-then-n-end
returns-5 c = says-no (λ is. let e = c.before.before.word-end.ensures in let le = is.within in let t = c.if-n-end.true in omega arith)

returns-6 : tie.Need-returns-in-Some
returns-6 c =
    container-all _ _ _ _ _ _ c.word-4.ensures c.word-end.ensures c.hop_through.result c.hop_through.ensures
    c.requires.2 (sym c.word.ensures ∙ c.if-word-ne0.false) (sym c.word-2.ensures ∙ c.if-word-ne0-2.false)
    (sym c.word-3.ensures ∙ c.if-word-list_kind_at.false ∙ c.list_kind_at.ensures)
    (rw c.word-end.ensures at c.if-n-end.false)
    _ c.in-Some.is _ c.word-count.ensures

returns-7 : tie.Need-returns-in-None
returns-7 c =
    container-broken _ _ _ _ _ _ c.word-4.ensures c.word-end.ensures c.hop_through.result c.hop_through.ensures
    c.in-None.is

pub container_agrees_spec : {M : Type 1} → statement M
container_agrees_spec =
    tie.close
    (tie.spec
    (λ c κs. search rules)
    returns
    (λ c κs. search rules)
    returns-2
    (λ c κs. search rules)
    (λ c κs. search rules)
    returns-3
    (λ c κs. search rules)
    returns-4
    returns-5
    (λ c κs. search rules)
    (λ c. search rules)
    (λ c κs. search rules)
    (λ c κs. search rules)
    (λ c. search rules)
    (λ c. search rules)
    returns-6
    returns-7)
