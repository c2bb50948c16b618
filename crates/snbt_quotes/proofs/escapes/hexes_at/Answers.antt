-- Right since each turn takes one digit more, and the digits left decide the answer.
-- Assumes nothing.
use Rattle.std.proofs.Common.{◌≡◌, ◌+◌, ◌-◌, arith, sym, ◌∙◌}
use Rattle.snbt_quotes.proofs.Backslashes.{room-le, room_next, hexes-cut, hexes-stuck, hexes-more, hexes-done}
use Rattle.snbt_quotes.proofs.escapes.hexes_at.Goals as goal

pub returns-then-end-i : goal.returns-then-end-i
returns-then-end-i c =
    let a = c.args in
    let l = c.loop-i in
    sym (hexes-cut a.text.now l.i a.end (a.at + 4 - l.i) l.v (omega arith) c.if-end-i.true) ∙ l.invariant.left

pub returns-then-h-ge16 : goal.returns-then-h-ge16
returns-then-h-ge16 c =
    let a = c.args in
    let l = c.loop-i in
    sym (hexes-stuck a.text.now l.i a.end (a.at + 4 - l.i) l.v (omega arith) c.if-end-i.false c.requires.1 (omega (arith, c.hex-h.ensures))) ∙ l.invariant.left

pub overflow_mul-v : goal.overflow_mul-v
overflow_mul-v c =
    let l = c.loop-i in
    omega (arith, room-le (c.args.at + 4 - l.i), l.invariant.small)

pub overflow_add-v : goal.overflow_add-v
overflow_add-v c =
    let l = c.loop-i in
    omega (arith, room-le (c.args.at + 4 - l.i), l.invariant.small)

pub loop-i-preserved : goal.loop-i-preserved
loop-i-preserved c =
    let a = c.args in
    let l = c.loop-i in
    let h = c.hex-h.result in
    let rest : a.at + 4 - l.i - 1 ≡ a.at + 4 - (l.i + 1) = omega arith in
    let more = hexes-more a.text.now l.i a.end (a.at + 4 - l.i) l.v (omega arith) c.if-end-i.false c.requires.1 h c.hex-h.ensures c.if-h-ge16.false in
    let small = room_next (a.at + 4 - l.i) l.v h (omega arith) (omega arith) l.invariant.small c.if-h-ge16.false in
    record { within = omega arith; small = rw rest at small; left = sym (rw rest at more) ∙ l.invariant.left }

pub returns : goal.returns
returns c =
    let a = c.args in
    let l = c.loop-i in
    sym (hexes-done (a.at + 4 - l.i) l.v l.i _ (omega arith)) ∙ l.invariant.left
