-- Each way through the code is a law of the definition, in any document that has the kind and the count.
-- Assumes nothing.
use Rattle.std.proofs.Common.{sym, ap, ◌∙◌, arith}
use Rattle.form.specs.Answer.{got}
use Rattle.form.proofs.Fields.{list-head-kind, list-head-empty, list-head-zero, list-head-below, list-head-got}
use Rattle.nbt_fields.proofs.judge_head.Goals as goal

pub returns-then-kind-gt-LONG_ARRAY : goal.returns-then-kind-gt-LONG_ARRAY
returns-then-kind-gt-LONG_ARRAY c form doc h e n = sym (list-head-kind form doc _ h n (omega (arith, e, c.if-kind-gt-LONG_ARRAY.true)))

pub returns-then-count-eq0 : goal.returns-then-count-eq0
returns-then-count-eq0 c form doc h e n = sym (list-head-empty form doc _ h n (omega (arith, e, c.if-kind-gt-LONG_ARRAY.false)) c.if-count-eq0.true)

pub returns-then-kind-eq-END : goal.returns-then-kind-eq-END
returns-then-kind-eq-END c form doc h e n = sym (list-head-zero form doc _ h n (sym e ∙ c.if-kind-eq-END.true) c.if-count-eq0.false)

pub returns-then-count-ge-BELOW_ZERO : goal.returns-then-count-ge-BELOW_ZERO
returns-then-count-ge-BELOW_ZERO c form doc h e n =
    sym (list-head-below form doc _ h n (omega (arith, e, c.if-kind-gt-LONG_ARRAY.false)) (λ z. c.if-kind-eq-END.false (e ∙ z)) c.if-count-eq0.false c.if-count-ge-BELOW_ZERO.true)

pub returns : goal.returns
returns c form doc h e n =
    ap (λ k. got (record { kind = k; count = c.args.count })) e
    ∙ sym (list-head-got form doc _ h n (omega (arith, e, c.if-kind-gt-LONG_ARRAY.false)) (λ z. c.if-kind-eq-END.false (e ∙ z)) c.if-count-eq0.false c.if-count-ge-BELOW_ZERO.false)
