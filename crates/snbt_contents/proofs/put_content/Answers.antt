-- Right since what is written and the bytes left make the content, for which there is room.
-- Assumes nothing.
use Rattle.std.proofs.Common.{◌+◌, ◌-◌, arith}
use Rattle.std.specs.Prelude.{Ok, Err}
use Rattle.snbt_contents.proofs.Sofar.{Putting, Room, putting-start, plain-room, putting-plain, putting-told, putting-end}
use Rattle.snbt_contents.proofs.put_content.Goals as goal

pub loop-i-init : goal.loop-i-init
loop-i-init c = record { within = c.requires.within.0; putting = putting-start _ _ _ _ _ _ }

pub copy-requires : goal.copy-requires
copy-requires c =
    let l = c.loop-i in
    let e = c.plain_end-j.ensures in
    (omega (arith, e.0, e.1, c.requires.within.1), plain-room _ _ _ _ _ _ c.requires l.out l.to l.i _ e.0 e.1 e.2 l.invariant.putting)

pub loop-i-preserved-then-i-end : goal.loop-i-preserved-then-i-end
loop-i-preserved-then-i-end c =
    let a = c.args in
    let l = c.loop-i in
    let j = c.plain_end-j.result in
    let e = c.plain_end-j.ensures in
    let ran : Putting a.text.now a.quoted a.start a.end a.out.now a.at c.copy.new.out (l.to + (j - l.i)) j =
    putting-plain _ _ _ _ _ _ c.requires l.out l.to l.i _ e.0 e.1 e.2 l.invariant.putting _ c.copy.ensures in
    record { within = e.1; putting = ran }

pub returns-in_default : goal.returns-in_default
returns-in_default c =
    let a = c.args in
    let l = c.loop-i in
    let j = c.plain_end-j.result in
    let e = c.plain_end-j.ensures in
    let ran : Putting a.text.now a.quoted a.start a.end a.out.now a.at c.copy.new.out (l.to + (j - l.i)) j =
    putting-plain _ _ _ _ _ _ c.requires l.out l.to l.i _ e.0 e.1 e.2 l.invariant.putting _ c.copy.ensures in
    putting-told _ _ _ _ _ _ c.requires _ _ _ (omega arith) ran (Err c.in_default.field-0) c.in_default.ensures _ _

pub put_value-to-requires : goal.put_value-to-requires
put_value-to-requires c =
    let a = c.args in
    let l = c.loop-i in
    let j = c.plain_end-j.result in
    let e = c.plain_end-j.ensures in
    let ran : Putting a.text.now a.quoted a.start a.end a.out.now a.at c.copy.new.out (l.to + (j - l.i)) j =
    putting-plain _ _ _ _ _ _ c.requires l.out l.to l.i _ e.0 e.1 e.2 l.invariant.putting _ c.copy.ensures in
    let f = c.in-Ok.front in
    let w : Room a.text.now a.quoted a.start a.end a.out.now a.at c.requires c.copy.new.out (l.to + (j - l.i)) j f.value f.size =
    putting-told _ _ _ _ _ _ c.requires _ _ _ (omega arith) ran (Ok f) c.in-Ok.ensures in
    (w.scalar, w.room)

pub overflow_add-i : goal.overflow_add-i
overflow_add-i c =
    let a = c.args in
    let l = c.loop-i in
    let j = c.plain_end-j.result in
    let e = c.plain_end-j.ensures in
    let ran : Putting a.text.now a.quoted a.start a.end a.out.now a.at c.copy.new.out (l.to + (j - l.i)) j =
    putting-plain _ _ _ _ _ _ c.requires l.out l.to l.i _ e.0 e.1 e.2 l.invariant.putting _ c.copy.ensures in
    let f = c.in-Ok.front in
    let w : Room a.text.now a.quoted a.start a.end a.out.now a.at c.requires c.copy.new.out (l.to + (j - l.i)) j f.value f.size =
    putting-told _ _ _ _ _ _ c.requires _ _ _ (omega arith) ran (Ok f) c.in-Ok.ensures in
    omega (arith, w.reach, c.requires.within.1)

pub loop-i-smaller : goal.loop-i-smaller
loop-i-smaller c =
    let a = c.args in
    let l = c.loop-i in
    let j = c.plain_end-j.result in
    let e = c.plain_end-j.ensures in
    let ran : Putting a.text.now a.quoted a.start a.end a.out.now a.at c.copy.new.out (l.to + (j - l.i)) j =
    putting-plain _ _ _ _ _ _ c.requires l.out l.to l.i _ e.0 e.1 e.2 l.invariant.putting _ c.copy.ensures in
    let f = c.in-Ok.front in
    let w : Room a.text.now a.quoted a.start a.end a.out.now a.at c.requires c.copy.new.out (l.to + (j - l.i)) j f.value f.size =
    putting-told _ _ _ _ _ _ c.requires _ _ _ (omega arith) ran (Ok f) c.in-Ok.ensures in
    omega (arith, w.some, w.reach)

pub loop-i-preserved : goal.loop-i-preserved
loop-i-preserved c =
    let a = c.args in
    let l = c.loop-i in
    let j = c.plain_end-j.result in
    let e = c.plain_end-j.ensures in
    let ran : Putting a.text.now a.quoted a.start a.end a.out.now a.at c.copy.new.out (l.to + (j - l.i)) j =
    putting-plain _ _ _ _ _ _ c.requires l.out l.to l.i _ e.0 e.1 e.2 l.invariant.putting _ c.copy.ensures in
    let f = c.in-Ok.front in
    let w : Room a.text.now a.quoted a.start a.end a.out.now a.at c.requires c.copy.new.out (l.to + (j - l.i)) j f.value f.size =
    putting-told _ _ _ _ _ _ c.requires _ _ _ (omega arith) ran (Ok f) c.in-Ok.ensures in
    let v = c.put_value-to.ensures in
    record { within = w.reach; putting = w.put _ _ v.0 v.1 }

pub returns : goal.returns
returns c = putting-end _ _ _ _ _ _ c.requires _ _ _ c.loop-i-test.false c.loop-i.invariant.putting
