-- `call_token::token` meets its contract: a token that the lexer answers carries no NaN.
-- Assumes nothing.
use Rattle.std.proofs.Common.{ap, ◌∙◌}
use Rattle.std.specs.Prelude.{Ok}
use Rattle.snbt_lexer.proofs.Answered.{found-quiet}
use Rattle.call_token.proofs.token.Goals as goal

pub carried_first-requires : goal.carried_first-requires
carried_first-requires c = found-quiet _ _ _ _ _ _ (c.in-Ok-Found.is ∙ ap Ok c.in-Ok-Found.field-0-is) c.token.ensures
