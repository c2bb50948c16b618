-- `table_store::word_at` meets its contract: each digit is put at its weight.
-- Assumes nothing.
use Rattle.std.proofs.Common.{◌+◌, ◌<◌, length, arith}
use Rattle.table_store.proofs.Reading.{no_value, weighed, sum-turn, sum_room, sum_fits, digit_at}
use Rattle.table_store.proofs.word_at.Goals as goal

pub loop-i-init : goal.loop-i-init
loop-i-init c = record { is = no_value c.args.lines.now c.args.at; room = omega arith }

pub value_of-requires : goal.value_of-requires
value_of-requires c = digit_at c.args.lines.now c.args.at 8 c.loop-i.i c.requires.0 c.requires.1 c.loop-i-test.true

-- What is read is a digit.
value-digit : (c : goal.After-value_of) → c.value_of.result < 16
value-digit c = rw c.value_of.ensures (digit_at c.args.lines.now c.args.at 8 c.loop-i.i c.requires.0 c.requires.1 c.loop-i-test.true)

pub overflow_add-n : goal.overflow_add-n
overflow_add-n c =
    let l = c.loop-i in
    let v = c.value_of.result in
    let h = c.loop-i-test.true in
    let d = value-digit c in
    rw (weighed l.i h l.n v d) (omega (arith, sum_fits l.i h l.n v d l.invariant.room))

pub loop-i-preserved : goal.loop-i-preserved
loop-i-preserved c =
    let l = c.loop-i in
    let s = c.args.lines.now in
    let v = c.value_of.result in
    let h = c.loop-i-test.true in
    let d = value-digit c in
    let there : c.args.at + l.i < length s = omega (arith, c.requires.0, h) in
    rw (weighed l.i h l.n v d) (record {
      is = sum-turn l.i h l.n v d s c.args.at there c.value_of.ensures l.invariant.is;
      room = sum_room l.i h l.n v d l.invariant.room;
    })
