-- Right since each turn takes one digit more.
-- Assumes nothing.
use Rattle.std.proofs.Common.{◌≡◌, take, get_or, length-take, ap, arith}
use mathlib.Core.Path.{◌∙◌}
use lib.Seq.{get_or-take}
use Rattle.lines.specs.Fields.{with_digit}
use Rattle.lines.proofs.Fields.{with-digit-le, decimal-start, decimal-next}
use Rattle.lines.proofs.decimal.Goals as goal

pub loop-b-init : goal.loop-b-init
loop-b-init c = (omega arith, decimal-start c.args.field.now)

pub loop-b-preserved : goal.loop-b-preserved
loop-b-preserved c =
    let s = c.args.field.now in
    let l = c.loop-b in
    let end = c.min.result in
    let here : get_or (take end s) l.b-index 0 ≡ get_or s l.b-index 0 = get_or-take end s l.b-index 0 (omega (arith, length-take end s)) in (
      rw c.step-v.ensures (with-digit-le _ _),
      c.step-v.ensures ∙ ap (with_digit l.v) here ∙ decimal-next s l.b-index l.v (omega (arith, length-take end s)) l.invariant.1,
    )
