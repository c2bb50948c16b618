-- `replay_tokens::print_lexed` is safe: a token that the lexer answers carries no NaN.
-- Assumes nothing.
use Rattle.std.proofs.Common.{ap, ◌∙◌}
use Rattle.std.specs.Prelude.{Ok}
use Rattle.snbt_lexer.proofs.Answered.{found-quiet}
use Rattle.replay_tokens.proofs.print_lexed.Goals as goal

pub print_token-requires : goal.print_token-requires
print_token-requires c = found-quiet _ _ _ _ _ _ (c.in-Ok-Found.is ∙ ap Ok c.in-Ok-Found.field-0-is) c.token.ensures
