-- The field is cut, or it is the number that `raw` reads.
-- Assumes nothing.
use Rattle.std.proofs.Common.{◌≡◌, sym, ap, ◌∙◌, arith}
use Rattle.form.specs.Answer.{got}
use Rattle.form.specs.Form.{order_in, form_no}
use Rattle.form.specs.Numbers.{number_in}
use Rattle.form.specs.Spans.{part}
use Rattle.form.proofs.Fields.{number-got, number-no}
use Rattle.nbt_fields.proofs.number.Goals as goal

pub returns-then-doc-at : goal.returns-then-doc-at
returns-then-doc-at c = sym (number-no _ _ _ _ (omega arith))

pub returns : goal.returns
returns c =
    let a = c.args in
    let order : order_in c.is_pocket.result ≡ (form_no a.form).order = ap order_in c.is_pocket.ensures in
    ap got (c.number_in.ensures.is ∙ ap (λ o. number_in o (part a.doc.now a.at a.n)) order) ∙ sym (number-got _ _ _ _ (omega arith))
