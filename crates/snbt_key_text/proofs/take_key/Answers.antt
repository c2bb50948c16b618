-- `take_key` meets its contract: a string's content is put; any other token is 19.
-- Assumes nothing.
use Rattle.std.proofs.Common.{refl, ap, subst}
use Rattle.snbt_tokens.specs.Answers.{token_is}
use Rattle.snbt_key_text.specs.Keys.{KeyAgrees}
use Rattle.snbt_key_text.proofs.Keys.{key-other, key-string, unstrung}
use Rattle.snbt_key_text.proofs.take_key.Goals as goal

pub returns : goal.returns
returns c room =
    let a = c.args in
    let r = c.put_key in
    subst (λ res. KeyAgrees res a.buffer.now r.result r.new.buffer)
    (key-string a.text.now _ _ _ a.«data».index.0 room (token_is a.«data».token) (ap token_is c.in-Str.is)) (r.ensures room)

pub returns-in_default : goal.returns-in_default
returns-in_default c room =
    let t = c.args.«data».token in
    (key-other c.args.text.now room (token_is t) c.args.«data».index.0 (unstrung t c.in_default.not-Str), refl)
