-- `token` meets its contract: the text's own refusal, then the place's, then the token.
-- Assumes nothing.
use Rattle.std.proofs.Common.{refl}
use Rattle.snbt_tokens.specs.Answers.{stops_is}
use Rattle.snbt_lexer.proofs.Finds.{text-refused, off-character, on-a-character}
use Rattle.snbt_lexer.proofs.token.Goals as goal

pub returns-in-Err : goal.returns-in-Err
returns-in-Err c = let a = c.args in text-refused (stops_is a.set) a.text.now a.start _ c.in-Err.ensures _ 0 refl

pub returns-then-on_character : goal.returns-then-on_character
returns-then-on_character c =
    let a = c.args in
    on-a-character (stops_is a.set) a.text.now a.start _ c.in_default.ensures refl _ c.on_character.ensures _
    c.if-on_character.true c.token_at.ensures

pub returns : goal.returns
returns c =
    let a = c.args in
    off-character (stops_is a.set) a.text.now a.start _ c.in_default.ensures refl _ c.on_character.ensures c.if-on_character.false
