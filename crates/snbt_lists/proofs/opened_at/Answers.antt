-- `opened_at` meets its contract: the tokens that are taken decide, and a list goes by its first one.
-- Assumes nothing.
use Rattle.std.proofs.Common.{◌∙◌, sym, ap}
use Rattle.std.proofs.lemmas.Result.{err_from_is_err_and}
use Rattle.form.specs.Answer.{got}
use Rattle.snbt_form.specs.Lexing.{first}
use Rattle.snbt_form.specs.Text.{sign_of}
use Rattle.snbt_form.proofs.Moves.{token-moves}
use Rattle.snbt_tokens.specs.Answers.{token_is}
use Rattle.snbt_due.proofs.Spanning.{token-spanned}
use Rattle.snbt_lists.proofs.Squares.{no-semicolon, not-found, square-no, square-ended, no-letter, letter-no, letter-ended, letter-other, letter-semicolon}
use Rattle.snbt_lists.proofs.opened_at.Goals as goal

pub returns-in_err-td : goal.returns-in_err-td
returns-in_err-td c =
    let a = c.args in
    let p = err_from_is_err_and c.from_residual.result c.from_residual.ensures.1 in
    rw (p.1, p.2) (square-no a.text.now a.room a.left a.brace.0 a.place a.at c.in_err-td.field-0.0 (sym c.in_err-td.ensures))

pub returns-in_default : goal.returns-in_default
returns-in_default c =
    let a = c.args in
    let z = not-found c.in_ok-td.field-0 c.in_default.not-Found in
    square-ended a.text.now a.room a.left a.brace.0 a.place a.at z.0 c.unmatched.result (sym c.in_ok-td.ensures ∙ ap got z.1) c.unmatched.ensures

pub letter_of-requires : goal.letter_of-requires
letter_of-requires c =
    let a = c.args in
    token-spanned first a.text.now a.place _ _ (sym (rw c.in-Found.is at c.in_ok-td.ensures)) c.requires.0

pub returns-in_default-letter_of : goal.returns-in_default-letter_of
returns-in_default-letter_of c =
    let a = c.args in
    no-letter a.text.now a.room a.left a.brace.0 a.place a.at _ _ (sym (rw c.in-Found.is at c.in_ok-td.ensures)) c.requires.0
    c.in_default-letter_of.ensures c.listed.result c.listed.ensures

pub token_at-requires-2 : goal.token_at-requires-2
token_at-requires-2 c =
    let a = c.args in
    (token-moves first a.text.now a.place _ _ (sym (rw c.in-Found.is at c.in_ok-td.ensures)) c.requires.0).2

pub returns-in_err-token_at : goal.returns-in_err-token_at
returns-in_err-token_at c =
    let a = c.args in
    let p = err_from_is_err_and c.from_residual-in_err-token_at.result c.from_residual-in_err-token_at.ensures.1 in
    rw (p.1, p.2)
    (letter-no a.text.now a.room a.left a.brace.0 a.place a.at _ _ (sym (rw c.in-Found.is at c.in_ok-td.ensures)) c.requires.0 c.in-Some.width c.in-Some.ensures
    c.in_err-token_at.field-0.0 (sym c.in_err-token_at.ensures))

pub returns-in-Ended : goal.returns-in-Ended
returns-in-Ended c =
    let a = c.args in
    letter-ended a.text.now a.room a.left a.brace.0 a.place a.at _ _ (sym (rw c.in-Found.is at c.in_ok-td.ensures)) c.requires.0 c.in-Some.width c.in-Some.ensures
    c.in-Ended.place (sym (rw c.in-Ended.is at c.in_ok-token_at.ensures)) c.listed-in-Ended.result c.listed-in-Ended.ensures

pub returns-in-Semicolon : goal.returns-in-Semicolon
returns-in-Semicolon c =
    let a = c.args in
    letter-semicolon a.text.now a.room a.left a.brace.0 a.place a.at _ _ (sym (rw c.in-Found.is at c.in_ok-td.ensures)) c.requires.0 c.in-Some.width c.in-Some.ensures
    _ _ (sym (rw c.in-Found-2.is at c.in_ok-token_at.ensures)) (ap (λ k. sign_of (token_is k)) c.in-Semicolon.is)

pub returns-in_default-token : goal.returns-in_default-token
returns-in_default-token c =
    let a = c.args in
    letter-other a.text.now a.room a.left a.brace.0 a.place a.at _ _ (sym (rw c.in-Found.is at c.in_ok-td.ensures)) c.requires.0 c.in-Some.width c.in-Some.ensures
    _ _ (sym (rw c.in-Found-2.is at c.in_ok-token_at.ensures)) (no-semicolon c.in-Found-2.d.token c.in_default-token.not-Semicolon)
    c.listed-in_default-token.result c.listed-in_default-token.ensures
