-- Right since each turn writes one number more.
-- Assumes nothing.
use Rattle.std.proofs.Common.{◌≡◌, ◌*◌, ◌≤◌, drop, ap, arith}
use mathlib.Core.Path.{◌∙◌}
use native.Mathlib.Nat.{mul-le-mul_right}
use lib.Seq.{drop-drop}
use Rattle.form.specs.Form.{way_no}
use Rattle.form.specs.Spans.{over}
use Rattle.recode.specs.Steps.{each_number}
use Rattle.recode.proofs.Numbers.{room, put-none, put-more, put_all}
use Rattle.recode.proofs.put_turned.Goals as goal

pub loop-i-init : goal.loop-i-init
loop-i-init c = put-none (way_no c.args.way) c.args.width c.args.out.now c.args.at (drop c.args.start c.args.doc.now)

pub overflow_mul-k : goal.overflow_mul-k
overflow_mul-k c = omega (arith, room c.loop-i.i c.args.count c.args.width c.loop-i-test.true)

pub loop-i-preserved : goal.loop-i-preserved
loop-i-preserved c =
    let a = c.args in
    let l = c.loop-i in
    let so-far : l.i * a.width ≤ a.count * a.width = mul-le-mul_right a.width (omega arith) in
    put-more (way_no a.way) a.width a.out.now a.at (drop a.start a.doc.now) l.i l.out _ (omega (arith, so-far)) l.invariant
    (rw (drop-drop (l.i * a.width) a.start a.doc.now) c.put_number.ensures)

pub returns : goal.returns
returns c =
    let a = c.args in
    let l = c.loop-i in
    let all : l.i ≡ a.count = omega arith in
    put_all (way_no a.way) a.width a.out.now a.at (drop a.start a.doc.now) a.count l.out
    (l.invariant ∙ ap (λ k. over a.out.now a.at (each_number (way_no a.way) a.width k (drop a.start a.doc.now))) all)
