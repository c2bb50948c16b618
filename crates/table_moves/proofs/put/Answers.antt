-- `table_moves::put` meets its contract: each line is put behind those that stand, and a parent is found on them.
-- Assumes nothing.
use Rattle.std.proofs.Common.{◌≡◌, ◌∙◌, subst, arith}
use Rattle.table_stored.specs.Words.{edition_of}
use Rattle.table_moves.proofs.Planting.{line-there-down, line-there-up, parent-few, climbable}
use Rattle.table_moves.proofs.Planting.{Midway, midway-none, midway-all, is-nine, is-eight, midway-down, midway-up}
use Rattle.table_moves.proofs.put.Goals.{then-nine, else-nine}
use Rattle.table_moves.proofs.put.Goals as goal

pub loop-i-init : goal.loop-i-init
loop-i-init c = midway-none _ _ _ _ c.requires.0 c.requires.1

pub put_down_line-requires : goal.put_down_line-requires
put_down_line-requires c =
    let l = c.loop-i in
    let h = c.loop-i-test.true in
    let m = is-nine _ _ _ _ _ _ c.if-nine.true l.invariant in
    (line-there-down _ _ m.planted l.i h, omega (arith, m.room))

pub parent_of-parent-requires : goal.parent_of-parent-requires
parent_of-parent-requires c =
    let l = c.loop-i in
    let m = is-eight _ _ _ _ _ _ c.if-nine.false l.invariant in
    climbable _ _ m.planted _ l.out m.room l.i c.loop-i-test.true m.so_far l.auto.out

pub put_up_line-requires : goal.put_up_line-requires
put_up_line-requires c =
    let l = c.loop-i in
    let h = c.loop-i-test.true in
    let m = is-eight _ _ _ _ _ _ c.if-nine.false l.invariant in
    (line-there-up _ _ m.planted l.i h, omega (arith, m.room), parent-few _ _ m.planted l.i _ h c.parent_of-parent.ensures)

pub loop-i-preserved : goal.loop-i-preserved
loop-i-preserved c =
    let l = c.loop-i in
    let h = c.loop-i-test.true in
    elim c.if-nine.branch [
      | then-nine w ↦ midway-down _ _ _ _ _ _ w.if-nine.true l.invariant h _ (w.out-is ∙ w.put_down_line.ensures)
      | else-nine w ↦ midway-up _ _ _ _ _ _ w.if-nine.false l.invariant h _ w.parent_of-parent.ensures _ (w.out-is ∙ w.put_up_line.ensures)
    ]

pub returns : goal.returns
returns c =
    let l = c.loop-i in
    let all : l.i ≡ c.args.n = omega arith in
    midway-all _ _ _ _ _ (subst (λ k. Midway (edition_of c.args.nine) c.args.lines.now c.args.n k c.args.out.now l.out) all l.invariant)
