-- `key_at` meets its contract: by the word that stands there, or as any key.
-- Assumes nothing.
use Rattle.snbt_tokens.specs.Answers.{last_is}
use Rattle.snbt_entries.proofs.Words.{keyed-word}
use Rattle.snbt_entries.proofs.key_at.Goals as goal

pub returns-in-Some : goal.returns-in-Some
returns-in-Some c =
    let a = c.args in
    let i = c.skip_blank-i in
    keyed-word a.text.now i.result _ c.in-Some.ensures a.place i.ensures c.requires.0 a.block.brace.0 (last_is a.last)
    a.out.now a.keys.now a.block.base a.top _ c.worded.result (c.worded.ensures a.block.brace.0)
