-- `listed` meets its contract: the list's head, then its first token.
-- Assumes nothing.
use Rattle.std.proofs.Common.{ap}
use Rattle.snbt_form.specs.Text.{sign_of}
use Rattle.snbt_tokens.specs.Answers.{token_is, data_is}
use Rattle.snbt_lists.proofs.Squares.{no-close, list-empty, list-first}
use Rattle.snbt_lists.proofs.listed.Goals as goal

pub returns-in-ClosedSquare : goal.returns-in-ClosedSquare
returns-in-ClosedSquare c =
    let a = c.args in
    list-empty a.left a.room a.brace.0 a.at c.in_ok-list_admitted.ensures (data_is a.td) a.next (ap (λ k. sign_of (token_is k)) c.in-ClosedSquare.is)

pub returns-in_default : goal.returns-in_default
returns-in_default c =
    let a = c.args in
    list-first a.left a.room a.brace.0 a.at c.in_ok-list_admitted.ensures (data_is a.td) a.next (no-close a.td.token c.in_default.not-ClosedSquare)
