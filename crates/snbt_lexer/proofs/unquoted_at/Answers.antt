-- `unquoted_at` meets its contract: rule 11's span, which is a number or a string by its first byte.
-- Assumes nothing.
use Rattle.std.proofs.Common.{refl, ap, ◌∙◌}
use Rattle.std.proofs.lemmas.Result.{err_from_is_err_and}
use Rattle.form.specs.Answer.{got}
use Rattle.snbt_form.specs.Lexing.{Token, made}
use Rattle.snbt_tokens.specs.Answers.{stops_is}
use Rattle.snbt_lexer.specs.Answers.{word_is}
use Rattle.snbt_lexer.proofs.Finds.{reaches, unquoted-number, unquoted-string}
use Rattle.snbt_lexer.proofs.unquoted_at.Goals as goal

pub number_at-requires : goal.number_at-requires
number_at-requires c =
    let a = c.args in
    reaches (stops_is a.set) a.text.now a.i (word_is c.word_at-w.result) c.word_at-w.ensures c.requires

pub returns-in_err-number_at : goal.returns-in_err-number_at
returns-in_err-number_at c =
    let a = c.args in
    let p = err_from_is_err_and c.from_residual.result c.from_residual.ensures.1 in
    rw (p.1, p.2)
    (unquoted-number (stops_is a.set) a.text.now a.i (word_is c.word_at-w.result) c.word_at-w.ensures _ _ c.opens_number.ensures _
    c.if-opens_number.true c.in_err-number_at.ensures refl)

pub returns-then-opens_number : goal.returns-then-opens_number
returns-then-opens_number c =
    let a = c.args in
    let w = word_is c.word_at-w.result in
    unquoted-number (stops_is a.set) a.text.now a.i w c.word_at-w.ensures _ _ c.opens_number.ensures _ c.if-opens_number.true c.in_ok-number_at.ensures
    (ap got (c.found.ensures ∙ ap (λ (k : Token). made k a.i w.width w.next) c.numeral_of-token.ensures))

pub returns : goal.returns
returns c =
    let a = c.args in
    unquoted-string (stops_is a.set) a.text.now a.i (word_is c.word_at-w.result) c.word_at-w.ensures _ _ c.opens_number.ensures
    c.if-opens_number.false (ap got c.found-2.ensures)
