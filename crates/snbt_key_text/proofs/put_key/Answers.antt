-- `put_key` meets its contract: a span that is its own content is copied to the buffer's start, any other is measured first.
-- Assumes nothing.
use Rattle.std.proofs.Common.{◌∙◌, sym, arith}
use Rattle.snbt_contents.proofs.Sofar.{verbatim}
use Rattle.snbt_key_text.proofs.Keys.{own-long, own_put, key-room, key_in}
use Rattle.snbt_key_text.proofs.put_key.Goals as goal

pub copy-requires : goal.copy-requires
copy-requires c =
    let a = c.args in
    let q = c.requires in
    let v = verbatim a.text.now a.start a.end q.0 q.1 (sym c.is_plain.ensures ∙ c.if-is_plain.true) in
    let own = own-long _ _ _ q.0 q.1 v a.quoted in
    let room = key-room _ _ _ _ 0 0 own (omega (arith, v.short)) q.2 q.0 q.1 in
    (omega (arith, q.0, q.1), omega (arith, room))

pub returns-then-is_plain : goal.returns-then-is_plain
returns-then-is_plain c room₀ =
    let a = c.args in
    let q = c.requires in
    let v = verbatim a.text.now a.start a.end q.0 q.1 (sym c.is_plain.ensures ∙ c.if-is_plain.true) in
    let own = own-long _ _ _ q.0 q.1 v a.quoted in
    let room = key-room _ _ _ _ 0 0 own (omega (arith, v.short)) q.2 q.0 q.1 in
    key_in _ _ _ _ _ room₀ own (omega (arith, v.short)) a.buffer.now _ _ room (own_put _ _ _ q.0 q.1 v a.quoted _ _ c.copy.ensures)
