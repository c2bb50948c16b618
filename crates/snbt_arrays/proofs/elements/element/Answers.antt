-- `elements::element` meets its contract: a comma and the closing brace by their characters, each arm the definition's turn at its token.
-- Assumes nothing.
use Rattle.std.proofs.Common.{length, refl, sym, arith}
use Rattle.std.proofs.lemmas.Result.{err_from_is_err_and}
use Rattle.snbt_form.specs.Lexing.{comma, closed_square, later}
use Rattle.snbt_tokens.specs.Answers.{data_is, last_is}
use Rattle.snbt_lexer.proofs.Fronts.{front-sign, front-token}
use Rattle.snbt_arrays.proofs.Turning.{turn-refused, turn-ended, turn-comma, turn-closed, turn-put}
use Rattle.snbt_arrays.proofs.elements.element.Goals as goal

pub returns-in_err-token_at-in_default : goal.returns-in_err-token_at-in_default
returns-in_err-token_at-in_default c =
    let a = c.args in
    let p = err_from_is_err_and c.from_residual.result c.from_residual.ensures.1 in
    rw (p.1, p.2)
    (turn-refused a.text.now (length a.out.now) a.width a.brace.0 (last_is a.last) a.place a.used _ _ (sym c.in_err-token_at-in_default.ensures))

pub returns-in-44 : goal.returns-in-44
returns-in-44 c =
    let a = c.args in
    let p = c.peek_at-peeked in
    let s = front-sign a.text.now a.place p.result p.ensures later comma (omega arith) c.in-44.is in
    turn-comma a.text.now a.width a.brace.0 (last_is a.last) a.place a.used a.out.now c.requires.0 (record { token = comma; index = p.result.index.0; width = 1 }) _ s refl _ refl refl

pub returns-in-93 : goal.returns-in-93
returns-in-93 c =
    let a = c.args in
    let p = c.peek_at-peeked in
    let s = front-sign a.text.now a.place p.result p.ensures later closed_square (omega arith) c.in-93.is in
    turn-closed a.text.now a.width a.brace.0 (last_is a.last) a.place a.used a.out.now c.requires.0 (record { token = closed_square; index = p.result.index.0; width = 1 }) _ s refl
    c.closed.result refl c.closed.ensures

pub returns-in-Ended : goal.returns-in-Ended
returns-in-Ended c =
    let a = c.args in
    turn-ended a.text.now (length a.out.now) a.width a.brace.0 (last_is a.last) a.place a.used c.in-Ended.place
    (sym (rw c.in-Ended.is at c.in_ok-token_at-in_default.ensures))

pub returns-in-Found : goal.returns-in-Found
returns-in-Found c =
    let a = c.args in
    let p = c.peek_at-peeked in
    let d = data_is c.in-Found.«data» in
    let e = sym (rw c.in-Found.is at c.in_ok-token_at-in_default.ensures) in
    let in-front = (front-token a.text.now a.place p.result p.ensures later d c.in-Found.next e).1 in
    turn-put a.text.now a.width a.brace.0 (last_is a.last) a.place a.used a.out.now c.requires.0 d c.in-Found.next e
    (λ s. let f = in-front (omega (arith, s)) in omega (arith, f, s))
    (λ s. let f = in-front (omega (arith, s)) in omega (arith, f, s))
    c.put_element.result _ c.put_element.ensures
