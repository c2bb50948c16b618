-- `token_by` meets its contract: each arm is the definition's case of its byte.
-- Assumes nothing.
use Rattle.std.proofs.Common.{ap}
use Rattle.form.specs.Answer.{got}
use Rattle.snbt_form.specs.Lexing.{token_by}
use Rattle.snbt_tokens.specs.Answers.{stops_is}
use Rattle.snbt_lexer.proofs.Finds.{by-quote, by_word}
use Rattle.snbt_lexer.proofs.token_by.Goals as goal

pub returns-in-44 : goal.returns-in-44
unfolding token_by
returns-in-44 c = rw c.in-44.is (ap got c.sign.ensures)

pub returns-in-58 : goal.returns-in-58
unfolding token_by
returns-in-58 c = rw c.in-58.is (ap got c.sign-in-58.ensures)

pub returns-in-59 : goal.returns-in-59
unfolding token_by
returns-in-59 c = rw c.in-59.is (ap got c.sign-in-59.ensures)

pub returns-in-91 : goal.returns-in-91
unfolding token_by
returns-in-91 c = rw c.in-91.is (ap got c.sign-in-91.ensures)

pub returns-in-93 : goal.returns-in-93
unfolding token_by
returns-in-93 c = rw c.in-93.is (ap got c.sign-in-93.ensures)

pub returns-in-123 : goal.returns-in-123
unfolding token_by
returns-in-123 c = rw c.in-123.is (ap got c.sign-in-123.ensures)

pub returns-in-125 : goal.returns-in-125
unfolding token_by
returns-in-125 c = rw c.in-125.is (ap got c.sign-in-125.ensures)

pub returns-in-34 : goal.returns-in-34
returns-in-34 c = let a = c.args in by-quote (stops_is a.set) a.text.now a.i a.b _ c.in-34.is c.quoted_found.ensures

pub returns-in_default : goal.returns-in_default
returns-in_default c =
    let a = c.args in
    let r = c.in_default.in_default-own.rest in
    let r₄ = r.0.0.0.0 in
    by_word (stops_is a.set) a.text.now a.i a.b _ r₄.0.0.0.1 r₄.0.0.1 r₄.0.1 r₄.1 r.0.0.0.1 r.0.0.1 r.0.1 r.1
    c.unquoted_at.ensures
