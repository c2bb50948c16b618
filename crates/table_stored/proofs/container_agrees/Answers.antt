-- `table_stored::container_agrees` meets its contract: each test is one line of what a container is, and the hops are its children.
-- Assumes nothing.
use Rattle.std.proofs.Common.{sym, ◌∙◌, arith}
use Rattle.table.proofs.Tests.{says-no, container-all, container-broken, container-on}
use Rattle.table_stored.proofs.Words.{lined-word}
use Rattle.table_stored.proofs.container_agrees.Goals as goal

pub word-requires : goal.word-requires
word-requires c = lined-word _ _ _ _ 3 c.requires.1 c.requires.0 (omega arith)

pub returns-then-word-ne0 : goal.returns-then-word-ne0
returns-then-word-ne0 c = says-no (λ is. c.if-word-ne0.true (c.word.ensures ∙ is.start))

pub word-requires-2 : goal.word-requires-2
word-requires-2 c = lined-word _ _ _ _ 4 c.requires.1 c.requires.0 (omega arith)

pub returns-then-word-ne0-2 : goal.returns-then-word-ne0-2
returns-then-word-ne0-2 c = says-no (λ is. c.if-word-ne0-2.true (c.word-2.ensures ∙ is.long))

pub word-requires-3 : goal.word-requires-3
word-requires-3 c = lined-word _ _ _ _ 6 c.requires.1 c.requires.0 (omega arith)

pub returns-then-word-list_kind_at : goal.returns-then-word-list_kind_at
returns-then-word-list_kind_at c =
    says-no (λ is. c.if-word-list_kind_at.true (c.word-3.ensures ∙ is.listed ∙ sym c.list_kind_at.ensures))

pub word-end-requires : goal.word-end-requires
word-end-requires c = lined-word _ _ _ _ 7 c.requires.1 c.requires.0 (omega arith)

pub returns-then-end-i : goal.returns-then-end-i
returns-then-end-i c = says-no (λ is. omega (arith, c.word-end.ensures, container-on _ _ _ _ is, c.if-end-i.true))

pub returns-then-n-end : goal.returns-then-n-end
returns-then-n-end c = says-no (λ is. omega (arith, c.word-end.ensures, is.within, c.if-n-end.true))

pub word-count-requires : goal.word-count-requires
word-count-requires c = lined-word _ _ _ _ 5 c.requires.1 c.requires.0 (omega arith)

pub word-requires-4 : goal.word-requires-4
word-requires-4 c = lined-word _ _ _ _ 0 c.requires.1 c.requires.0 (omega arith)

pub hop_through-requires : goal.hop_through-requires
hop_through-requires c = (omega (arith, c.if-end-i.false), λ j h. c.requires.1.line j (omega (arith, c.if-n-end.false)))

pub returns-in-Some : goal.returns-in-Some
returns-in-Some c =
    let h = c.hop_through in
    let e = c.word-end.ensures in
    container-all _ _ _ _ _ _ c.word-4.ensures e h.result h.ensures
    c.requires.2
    (sym c.word.ensures ∙ c.if-word-ne0.false)
    (sym c.word-2.ensures ∙ c.if-word-ne0-2.false)
    (sym c.word-3.ensures ∙ c.if-word-list_kind_at.false ∙ c.list_kind_at.ensures)
    (omega (arith, e, c.if-n-end.false))
    _ c.in-Some.is _ c.word-count.ensures

pub returns-in-None : goal.returns-in-None
returns-in-None c =
    let h = c.hop_through in
    container-broken _ _ _ _ _ _ c.word-4.ensures c.word-end.ensures h.result h.ensures c.in-None.is
