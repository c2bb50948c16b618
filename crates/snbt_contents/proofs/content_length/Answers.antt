-- Right since what is counted and the bytes left make the content; it is at most twice as long as the bytes read, so the sum fits.
-- Assumes nothing.
use Rattle.std.proofs.Common.{◌+◌, ◌-◌, arith}
use Rattle.std.proofs.lemmas.Result.{err_from_is_err_and}
use Rattle.std.specs.Prelude.{Ok, Err}
use Rattle.snbt_contents.proofs.Sofar.{Counted, Longer, counted_start, counted-plain, counted-end, counted-told}
use Rattle.snbt_contents.proofs.content_length.Goals as goal

pub loop-i-init : goal.loop-i-init
loop-i-init c = record { within = omega arith; twice = omega arith; counted = counted_start _ _ _ _ }

pub loop-i-preserved-then-i-end : goal.loop-i-preserved-then-i-end
loop-i-preserved-then-i-end c =
    let a = c.args in
    let l = c.loop-i in
    let j = c.plain_end-j.result in
    let e = c.plain_end-j.ensures in
    let ran : Counted a.text.now a.quoted a.start a.end j (l.n + (j - l.i)) =
    counted-plain a.text.now a.quoted a.start a.end l.i j l.n e.0 e.1 c.requires.1 e.2 l.invariant.counted in
    record { within = omega arith; twice = omega arith; counted = ran }

pub returns-in_err-front : goal.returns-in_err-front
returns-in_err-front c =
    let a = c.args in
    let l = c.loop-i in
    let j = c.plain_end-j.result in
    let e = c.plain_end-j.ensures in
    let ran : Counted a.text.now a.quoted a.start a.end j (l.n + (j - l.i)) =
    counted-plain a.text.now a.quoted a.start a.end l.i j l.n e.0 e.1 c.requires.1 e.2 l.invariant.counted in
    let p = err_from_is_err_and c.from_residual.result c.from_residual.ensures.1 in
    rw (p.1, p.2) (counted-told a.text.now a.quoted a.start a.end j (l.n + (j - l.i)) (omega arith) c.requires.1 ran (Err c.in_err-front.field-0.0) c.in_err-front.ensures)

pub overflow_add-n-in-loop-i : goal.overflow_add-n-in-loop-i
overflow_add-n-in-loop-i c =
    let a = c.args in
    let l = c.loop-i in
    let j = c.plain_end-j.result in
    let e = c.plain_end-j.ensures in
    let ran : Counted a.text.now a.quoted a.start a.end j (l.n + (j - l.i)) =
    counted-plain a.text.now a.quoted a.start a.end l.i j l.n e.0 e.1 c.requires.1 e.2 l.invariant.counted in
    let f = c.in_ok-front.front in
    let w : Longer a.text.now a.quoted a.start a.end j (l.n + (j - l.i)) f.value f.size = counted-told a.text.now a.quoted a.start a.end j (l.n + (j - l.i)) (omega arith) c.requires.1 ran (Ok f) c.in_ok-front.ensures in
    omega (arith, w.reach, w.size, c.length_of-n.ensures, c.well_formed)

pub overflow_add-i : goal.overflow_add-i
overflow_add-i c =
    let a = c.args in
    let l = c.loop-i in
    let j = c.plain_end-j.result in
    let e = c.plain_end-j.ensures in
    let ran : Counted a.text.now a.quoted a.start a.end j (l.n + (j - l.i)) =
    counted-plain a.text.now a.quoted a.start a.end l.i j l.n e.0 e.1 c.requires.1 e.2 l.invariant.counted in
    let f = c.in_ok-front.front in
    let w : Longer a.text.now a.quoted a.start a.end j (l.n + (j - l.i)) f.value f.size = counted-told a.text.now a.quoted a.start a.end j (l.n + (j - l.i)) (omega arith) c.requires.1 ran (Ok f) c.in_ok-front.ensures in
    omega (arith, w.reach)

pub loop-i-smaller : goal.loop-i-smaller
loop-i-smaller c =
    let a = c.args in
    let l = c.loop-i in
    let j = c.plain_end-j.result in
    let e = c.plain_end-j.ensures in
    let ran : Counted a.text.now a.quoted a.start a.end j (l.n + (j - l.i)) =
    counted-plain a.text.now a.quoted a.start a.end l.i j l.n e.0 e.1 c.requires.1 e.2 l.invariant.counted in
    let f = c.in_ok-front.front in
    let w : Longer a.text.now a.quoted a.start a.end j (l.n + (j - l.i)) f.value f.size = counted-told a.text.now a.quoted a.start a.end j (l.n + (j - l.i)) (omega arith) c.requires.1 ran (Ok f) c.in_ok-front.ensures in
    omega (arith, w.some, w.reach)

pub loop-i-preserved : goal.loop-i-preserved
loop-i-preserved c =
    let a = c.args in
    let l = c.loop-i in
    let j = c.plain_end-j.result in
    let e = c.plain_end-j.ensures in
    let ran : Counted a.text.now a.quoted a.start a.end j (l.n + (j - l.i)) =
    counted-plain a.text.now a.quoted a.start a.end l.i j l.n e.0 e.1 c.requires.1 e.2 l.invariant.counted in
    let f = c.in_ok-front.front in
    let w : Longer a.text.now a.quoted a.start a.end j (l.n + (j - l.i)) f.value f.size = counted-told a.text.now a.quoted a.start a.end j (l.n + (j - l.i)) (omega arith) c.requires.1 ran (Ok f) c.in_ok-front.ensures in
    record { within = w.reach; twice = omega (arith, w.size, c.length_of-n.ensures); counted = w.counted _ c.length_of-n.ensures }

pub returns : goal.returns
returns c = counted-end _ _ _ _ _ _ c.loop-i-test.false c.loop-i.invariant.counted
