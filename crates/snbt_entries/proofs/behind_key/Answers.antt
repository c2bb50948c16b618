-- `behind_key` meets its contract: the colon in front, with the place behind it; any other token is refused.
-- Assumes nothing.
use Rattle.std.proofs.lemmas.Result.{err_from_is_err_and}
use Rattle.snbt_entries.proofs.Turns.{colon-no}
use Rattle.snbt_entries.proofs.Colons.{front-colon, front-none}
use Rattle.snbt_entries.proofs.behind_key.Goals as goal

pub returns-then-peeked-eq58 : goal.returns-then-peeked-eq58
returns-then-peeked-eq58 c =
    let a = c.args in
    let p = c.peek_at-peeked in
    front-colon a.text.now a.place p.result p.ensures c.requires a.brace.0 c.if-peeked-eq58.true

pub returns-in_err-due_at : goal.returns-in_err-due_at
returns-in_err-due_at c =
    let a = c.args in
    let p = err_from_is_err_and c.from_residual.result c.from_residual.ensures.1 in
    rw (p.1, p.2.0, p.2.1) (λ room. colon-no a.text.now room a.brace.0 a.place _ _ (c.in_err-due_at.ensures room))

pub returns : goal.returns
returns c =
    let a = c.args in
    let p = c.peek_at-peeked in
    front-none a.text.now a.place p.result p.ensures c.requires a.brace.0 c.if-peeked-eq58.false _ _ c.in_ok-due_at.ensures
