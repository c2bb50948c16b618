-- Right since an element takes its payload's size, and an entry its id and its name as it is written too.
-- Assumes nothing.
use borrow.Author.Rules.{rules}
use native.Mathlib.Omega.{arith}
use Prim.Native.Nat.{◌+◌}
use mathlib.Core.Path.{◌≡◌, sym, ◌∙◌}
use lib.ListN.{length}
use Rattle.form.specs.Form.{way_no}
use Rattle.form.specs.Spans.{part}
use Rattle.form.specs.Turned.{recoded}
use Rattle.form.specs.Table.{head_of}
use Rattle.nbt_judging.proofs.Bytes.{own-element, own-entry, own-bound}
use Rattle.nbt_judging.proofs.own_size.Statement.{statement}
use Rattle.nbt_judging.proofs.own_size.Tie as tie

-- The name that is measured is the record's.
measured : (c : tie.After-text_size) →
    let a = c.args in
    let h = head_of a.table.now a.n in
    c.text_size.result ≡ length (recoded (way_no a.way) (part a.doc.now h.name h.name_length))
measured c =
    let a = c.args in
    c.text_size.ensures ∙ (λ i. length (recoded (way_no a.way) (part a.doc.now (c.word-start.ensures i) (c.word-size.ensures i))))

returns-2 : tie.Need-returns
returns-2 c =
    (λ i. c.body_size-body.ensures i + (measured c i + 3)) ∙ sym (own-entry _ _ _ _ c.if-list.false)

-- The sum stays small, since it is the record's size.
add-result : tie.Need-overflow_add-result-2
add-result c =
    let a = c.args in
    omega (arith, returns-2 c, own-bound (way_no a.way) a.doc.now (head_of a.table.now a.n) a.list)

pub own_size_spec : {M : Type 1} → statement M
own_size_spec =
    tie.close
    (tie.spec
    (λ c κs. search rules)
    (λ c. c.body_size-body.ensures ∙ sym (own-element _ _ _ _ c.if-list.true))
    (λ c κs. search rules)
    (λ c κs. search rules)
    (λ c κs. search rules)
    (λ c. omega (arith, add-result c))
    add-result
    returns-2)
