-- `wholes::whole_at` meets its contract: the digits' number, which the cap leaves as it is up to 2^63, against the range of its sign.
-- Assumes nothing.
use Rattle.std.proofs.Common.{true, false, arith}
use Rattle.std.proofs.Math.Seq.{slice}
use Rattle.snbt_numbers.proofs.Rows.{whole-good}
use Rattle.snbt_numbers.proofs.Tokens.{some_bytes}
use Rattle.snbt_numbers.proofs.wholes.whole_at.Goals as goal

pub returns-then-negative : goal.returns-then-negative
returns-then-negative c =
    let a = c.args in
    rw c.if-negative.true
    (whole-good true (slice a.from a.to a.text.now) c.in_ok-n.n (some_bytes a.from a.to a.text.now c.if-to-from.false c.requires.1) c.in_ok-n.ensures (omega arith))

pub returns : goal.returns
returns c =
    let a = c.args in
    rw c.if-negative.false
    (whole-good false (slice a.from a.to a.text.now) c.in_ok-n.n (some_bytes a.from a.to a.text.now c.if-to-from.false c.requires.1) c.in_ok-n.ensures (omega arith))
