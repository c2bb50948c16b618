-- Right since numbers in the same order are their bytes, and otherwise as many are written as the span has.
-- Assumes nothing.
use mathlib.Core.Path.{◌≡◌, sym, ap, ◌∙◌}
use mathlib.Core.Bool.{true, false}
use native.Mathlib.Nat.{div-mul-le_self}
use native.Mathlib.Omega.{arith}
use borrow.Author.Rules.{rules}
use lib.ListN.{length}
use Rattle.form.specs.Form.{way_no, same_order}
use Rattle.form.proofs.Spans.{part_length}
use Rattle.recode.proofs.Outputs.{copied}
use Rattle.recode.proofs.Numbers.{same-order, other-order, other_length}
use Rattle.recode.proofs.put_numbers.Statement.{statement}
use Rattle.recode.proofs.put_numbers.Tie as tie

abbrev start_of : tie.After-same_order → tie.Start
start_of c = c.before.before.before

-- the order is the same, or it is not
same : (c : tie.Then-same_order) → let way = way_no (start_of c.before).args.way in same_order way.from.order way.to.order ≡ true
same c = sym c.before.same_order.ensures ∙ c.if-same_order.true

other : (c : tie.Else-same_order) → let way = way_no (start_of c.before).args.way in same_order way.from.order way.to.order ≡ false
other c = sym c.before.same_order.ensures ∙ c.if-same_order.false

copy-requires : tie.Need-copy-requires
copy-requires c κs =
    let at_test = c.before in
    let start = start_of at_test.before in
    let a = start.args in
    let pre = start.requires in
    let as_is = same-order (way_no a.way) a.width a.doc.now a.start a.size (same at_test) in
    (pre.2, omega (arith, pre.3, ap length as_is, part_length a.doc.now a.start a.size pre.2))

returns : tie.Need-returns-then-same_order
returns c =
    let at_copy = c.before.before in
    let at_test = at_copy.before.before in
    let start = start_of at_test.before in
    let a = start.args in
    copied _ a.doc.now a.out.now _ a.start a.size a.at start.requires.2
    (same-order (way_no a.way) a.width a.doc.now a.start a.size (same at_test)) at_copy.copy.ensures

put_turned-requires : tie.Need-put_turned-requires
put_turned-requires c κs =
    let at_test = c.before in
    let start = start_of at_test.before in
    let a = start.args in
    let pre = start.requires in
    let whole = div-mul-le_self a.size a.width in
    let size = other_length (way_no a.way) a.width a.doc.now a.start a.size pre.2 (other at_test) in
    (pre.1, omega (arith, whole, pre.2), omega (arith, size, pre.3))

returns-2 : tie.Need-returns
returns-2 c =
    let at-put = c.before.before in
    let at_test = at-put.before.before in
    let start = start_of at_test.before in
    let a = start.args in
    rw (other-order (way_no a.way) a.width a.doc.now a.start a.size start.requires.2 (other at_test)) at-put.put_turned.ensures

pub put_numbers_spec : {M : Type 1} → statement M
put_numbers_spec =
    tie.close
    (tie.spec
    (λ c κs. search rules)
    copy-requires
    (λ c. search rules)
    (λ c. search rules)
    returns
    (λ c. search rules)
    put_turned-requires
    (λ c. search rules)
    returns-2)
