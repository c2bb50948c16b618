-- Each way through the code is a law of the definition.
-- Assumes nothing.
use Rattle.std.proofs.Common.{◌+◌, ◌≡◌, sym, ap, ◌∙◌, arith}
use Rattle.form.specs.Form.{form_no}
use Rattle.form.specs.Answer.{got}
use Rattle.form.specs.Spans.{part}
use Rattle.form.specs.Decoding.{verdict_in}
use Rattle.form.specs.Numbers.{number_in}
use Rattle.form.specs.Reading.{number_at}
use Rattle.std.proofs.lemmas.Result.{err_from_is_err_and}
use Rattle.form.proofs.Spans.{part_length}
use Rattle.form.proofs.Orders.{value-bytes}
use Rattle.form.proofs.Strings.{judged-part, bad-within}
use Rattle.form.proofs.Fields.{number-got, number-within, string-no, string-cut, string-bad, string-got}
use Rattle.mutf8.specs.Answers.{verdict_of}
use Rattle.nbt_fields.proofs.string_at.Goals as goal

pub returns-in_err-len : goal.returns-in_err-len
returns-in_err-len c = let p = err_from_is_err_and c.from_residual.result c.from_residual.ensures.1 in rw (p.1, p.2) (sym (string-no _ _ _ (sym c.in_err-len.ensures)))

-- a length of two bytes is small, so that the place behind the content is a word
pub overflow_add-end : goal.overflow_add-end
overflow_add-end c =
    let a = c.args in
    let f = form_no a.form in
    let is : number_at f a.doc.now 2 a.at ≡ got c.in_ok-len.len = sym c.in_ok-len.ensures in
    let begins = number-within f a.doc.now 2 a.at is in
    let known = value-bytes f.order a.doc.now (λ k. omega (arith, c.type_inv.doc k)) a.at 2 begins in
    let same : number_in f.order (part a.doc.now a.at 2) ≡ c.in_ok-len.len = cc (number-got f a.doc.now 2 a.at begins, is) in
    omega (arith, known.1, same, begins)

pub returns-then-doc-end : goal.returns-then-doc-end
returns-then-doc-end c = sym (string-cut _ _ _ _ (sym c.in_ok-len.ensures) (omega (arith, c.if-doc-end.true)))

-- What is told of the part that is judged is told of the content.
pub overflow_add-result : goal.overflow_add-result
overflow_add-result c =
    let a = c.args in
    let rule = (form_no a.form).strings in
    let told = judged-part (verdict_in rule) a.doc.now (a.at + 2) c.in_ok-len.len (sym c.check.ensures.is) ∙ ap verdict_of c.in-Err.is in
    omega (arith, bad-within rule _ _ told, part_length a.doc.now (a.at + 2) c.in_ok-len.len c.if-doc-end.false, c.if-doc-end.false)

pub returns-in-Ok : goal.returns-in-Ok
returns-in-Ok c =
    let a = c.args in
    let told = judged-part (verdict_in (form_no a.form).strings) a.doc.now (a.at + 2) c.in_ok-len.len (sym c.check.ensures.is) in
    sym (string-got _ _ _ _ (sym c.in_ok-len.ensures) c.if-doc-end.false (told ∙ ap verdict_of c.in-Ok.is))

pub returns-in-Err : goal.returns-in-Err
returns-in-Err c =
    let a = c.args in
    let told = judged-part (verdict_in (form_no a.form).strings) a.doc.now (a.at + 2) c.in_ok-len.len (sym c.check.ensures.is) in
    sym (string-bad _ _ _ _ (sym c.in_ok-len.ensures) c.if-doc-end.false (told ∙ ap verdict_of c.in-Err.is))
