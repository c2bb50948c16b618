-- `token_at` meets its contract: the end, or the token at the first place that is not blank.
-- Assumes nothing.
use Rattle.snbt_tokens.specs.Answers.{stops_is}
use Rattle.snbt_lexer.proofs.Finds.{token_end, token-here}
use Rattle.snbt_lexer.proofs.token_at.Goals as goal

pub returns-then-text-i : goal.returns-then-text-i
returns-then-text-i c = let a = c.args in token_end (stops_is a.set) a.text.now a.start _ c.skip_blank-i.ensures c.if-text-i.true

pub returns : goal.returns
returns c =
    let a = c.args in
    token-here (stops_is a.set) a.text.now a.start _ c.skip_blank-i.ensures _ c.if-text-i.false c.token_by.ensures
