-- Right since each turn takes one digit more.
-- Assumes nothing.
use Rattle.std.proofs.Common.{◌+◌, ◌*◌, ◌<◌, length, get_or, sym, ap, subst, arith}
use mathlib.Core.Path.{◌∙◌}
use Rattle.form.specs.Form.{order_in}
use Rattle.form.specs.Numbers.{ordered}
use Rattle.form.specs.Spans.{part}
use Rattle.form.proofs.Numbers.{below_next}
use Rattle.raw.proofs.Order.{place_inside}
use Rattle.raw.proofs.Turns.{read-start, read-turn, read-room}
use Rattle.raw.proofs.number_by.Goals as goal

pub loop-i-init : goal.loop-i-init
loop-i-init c = (read-start (ordered (order_in c.args.little) (part c.args.s.now c.args.at c.args.width)), omega arith)

-- there is room for one digit more
pub overflow_mul-n : goal.overflow_mul-n
overflow_mul-n c = omega (arith, read-room c.loop-i.n c.loop-i.i c.args.width c.loop-i.invariant.1 c.loop-i-test.true c.requires.0)

pub bounds-s-place_of : goal.bounds-s-place_of
bounds-s-place_of c =
    let a = c.args in
    subst (λ k. k < length a.s.now) (sym c.place_of.ensures)
    (place_inside (order_in a.little) a.at a.width c.loop-i.i (length a.s.now) c.loop-i-test.true c.requires.1)

pub overflow_add-n : goal.overflow_add-n
overflow_add-n c =
    let room = read-room c.loop-i.n c.loop-i.i c.args.width c.loop-i.invariant.1 c.loop-i-test.true c.requires.0 in
    omega (arith, c.type_inv.s c.place_of.result, room)

pub loop-i-preserved : goal.loop-i-preserved
loop-i-preserved c =
    let a = c.args in
    let l = c.loop-i in
    let byte : get_or a.s.now c.place_of.result 0 < 256 = omega (arith, c.type_inv.s c.place_of.result) in (
      ap (λ k. l.n * 256 + get_or a.s.now k 0) c.place_of.ensures
          ∙ read-turn (order_in a.little) a.s.now a.at a.width l.i l.n c.loop-i-test.true c.requires.1 l.invariant.0,
      below_next l.n _ l.i l.invariant.1 byte,
    )
