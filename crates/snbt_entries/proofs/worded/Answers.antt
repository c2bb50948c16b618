-- `worded` meets its contract: the word is its own name, and the colon behind it is known.
-- Assumes nothing.
use Rattle.std.proofs.Common.{arith}
use Rattle.snbt_entries.proofs.Words.{word_room, word_stands, word-twice, word-named}
use Rattle.snbt_entries.proofs.worded.Goals as goal

pub copy-requires : goal.copy-requires
copy-requires c =
    let a = c.args in
    let p = c.requires.0 in
    let room = word_room a.text.now a.i a.j p c.requires.2 in
    (omega (arith, p.order, p.within), omega (arith, room))

pub spot_of-requires : goal.spot_of-requires
spot_of-requires c =
    let a = c.args in
    let room = word_room a.text.now a.i a.j c.requires.0 c.requires.2 in
    (c.requires.1, omega (arith, room, c.copy.auto.out))

pub returns-in_default : goal.returns-in_default
returns-in_default c =
    let a = c.args in
    let room = word_room a.text.now a.i a.j c.requires.0 c.requires.2 in
    let stood = word_stands a.text.now a.i a.j c.requires.0 a.buffer.now _ room c.copy.ensures in
    word-twice a.text.now a.i a.j c.requires.0 a.out.now a.keys.now a.base a.top _ stood c.in_default.ensures

pub returns : goal.returns
returns c =
    let a = c.args in
    let room = word_room a.text.now a.i a.j c.requires.0 c.requires.2 in
    let stood = word_stands a.text.now a.i a.j c.requires.0 a.buffer.now _ room c.copy.ensures in
    word-named a.text.now a.i a.j c.requires.0 a.out.now a.keys.now a.base a.top _ stood _ c.in-Some.ensures
