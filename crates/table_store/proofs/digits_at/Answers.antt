-- `table_store::digits_at` meets its contract: a value above the largest takes its place, and another changes nothing.
-- Assumes nothing.
use Rattle.std.proofs.Common.{◌≡◌, ◌+◌, ◌-◌, ◌<◌, length, get_or, ltb, ap, ◌∙◌, arith}
use Rattle.form.specs.Stored.{digit_of}
use Rattle.form.proofs.Places.{part_at}
use Rattle.form.proofs.Spans.{part_length}
use Rattle.table_store.proofs.Reading.{no-digits, larger, not-larger}
use Rattle.table_store.proofs.digits_at.Goals as goal
use Rattle.table_store.proofs.digits_at.Goals.{then-largest-value, else-largest-value}

pub loop-b-init : goal.loop-b-init
loop-b-init c = no-digits c.args.lines.now c.args.at

pub loop-b-preserved : goal.loop-b-preserved
loop-b-preserved c =
    let s = c.args.lines.now in
    let at = c.args.at in
    let l = c.loop-b in
    let span = at + c.args.count - at in
    let in_span : l.b-index < span = omega (arith, c.loop-b-test.true, part_length s at span (omega arith)) in
    let there : at + l.b-index < length s = omega arith in
    let value : c.digit_of-value.result ≡ digit_of (get_or s (at + l.b-index) 0) = c.digit_of-value.ensures ∙ ap digit_of (part_at s at span l.b-index in_span) in
    elim c.if-largest-value.branch [
      | then-largest-value w ↦ ap (λ x. ltb x 16) w.largest-is ∙ larger s at l.b-index there _ value l.largest l.invariant w.if-largest-value.true
      | else-largest-value w ↦ ap (λ x. ltb x 16) w.largest-is ∙ not-larger s at l.b-index there _ value l.largest l.invariant w.if-largest-value.false
    ]
