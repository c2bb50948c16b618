-- `decimals::first_of` meets its contract: the byte at i is the first, or the next ones are looked at, or there is none left.
-- Assumes nothing.
use mathlib.Core.Logic.{⊎_elim}
use Rattle.std.proofs.Common.{arith, get_or}
use Rattle.snbt_numbers.proofs.Firsts.{first-hit, first-next, first-end, is_x, is_y, neither}
use Rattle.snbt_numbers.proofs.decimals.first_of.Goals as goal

pub returns-then-b-x : goal.returns-then-b-x
returns-then-b-x c =
    let a = c.args in
    let l = c.loop-i in
    first-hit a.x a.y a.text.now a.at l.i a.to l.auto.i c.requires.1 l.invariant c.loop-i-test.true
    (⊎_elim (λ h. is_x a.x a.y (get_or a.text.now l.i 0) h) (λ h. is_y a.x a.y (get_or a.text.now l.i 0) h.1) c.then-b-x.either)

pub loop-i-preserved : goal.loop-i-preserved
loop-i-preserved c =
    let a = c.args in
    let l = c.loop-i in
    first-next a.x a.y a.text.now a.at l.i a.to l.auto.i c.requires.1 l.invariant c.loop-i-test.true (neither a.x a.y _ c.if-b-x.false c.if-b-y.false)

pub returns : goal.returns
returns c =
    let a = c.args in
    let l = c.loop-i in
    first-end a.x a.y a.text.now a.at l.i a.to l.auto.i c.requires.1 l.invariant (omega arith)
