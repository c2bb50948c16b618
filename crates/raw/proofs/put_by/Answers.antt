-- Right since each turn writes the lowest of the digits left.
-- Assumes nothing.
use Rattle.std.proofs.Common.{◌≡◌, ◌+◌, ◌-◌, ◌/◌, ◌%◌, ◌<◌, length, set, sym, ap, subst, arith}
use mathlib.Core.Path.{◌∙◌}
use Rattle.form.specs.Form.{order_in}
use Rattle.raw.proofs.Order.{place_inside}
use Rattle.raw.proofs.Turns.{finished, put-start, put-turn, put-end}
use Rattle.raw.proofs.put_by.Goals as goal

pub loop-done-init : goal.loop-done-init
loop-done-init c =
    let all : c.args.width - 0 ≡ c.args.width = omega arith in
    rw (all) (put-start (order_in c.args.little) c.args.d.now c.args.at c.args.width c.args.v c.requires.1)

pub bounds-d-place_of : goal.bounds-d-place_of
bounds-d-place_of c =
    let a = c.args in
    let l = c.loop-done in
    subst (λ k. k < length l.d) (sym c.place_of.ensures)
    (place_inside (order_in a.little) a.at a.width (a.width - 1 - l.done) (length l.d) (omega arith) (omega (arith, c.requires.1, l.auto.d)))

pub loop-done-preserved : goal.loop-done-preserved
loop-done-preserved c =
    let a = c.args in
    let o = order_in a.little in
    let l = c.loop-done in
    let next : a.width - 1 - l.done ≡ a.width - l.done - 1 = omega arith in
    let fewer : a.width - (l.done + 1) ≡ a.width - l.done - 1 = omega arith in
    let turn = put-turn o l.d a.at a.width (a.width - l.done) l.rest (omega arith) (omega arith) (omega (arith, c.requires.1, l.auto.d)) in
    rw (fewer) (ap (λ k. finished o (set l.d k (l.rest % 256)) a.at a.width (a.width - l.done - 1) (l.rest / 256)) (rw (next) at c.place_of.ensures)
    ∙ turn ∙ l.invariant)

pub returns : goal.returns
returns c =
    let a = c.args in
    let l = c.loop-done in
    sym (put-end (order_in a.little) l.d a.at a.width (a.width - l.done) l.rest (omega arith) (omega (arith, c.requires.1, l.auto.d))) ∙ l.invariant
