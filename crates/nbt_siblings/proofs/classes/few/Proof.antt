-- `few` meets its contract: those before the record at hand have no earlier twin, and their classes are marked.
-- Assumes nothing.
use native.Mathlib.Omega.{arith}
use Prim.Native.Nat.{◌-◌}
use mathlib.Core.Path.{refl}
use Rattle.nbt_siblings.specs.Links.{Fit}
use Rattle.nbt_siblings.proofs.Places.{place_here, place-fit, place-on, Trying, trying_start, trying-hit, trying-next, trying-end}
use Rattle.nbt_siblings.proofs.Seen.{Seen, seen_start, seen-fresh, seen_next}
use Rattle.nbt_siblings.proofs.classes.few.Statement.{statement}
use Rattle.nbt_siblings.proofs.classes.few.Tie as tie

abbrev Inv : tie.invariant-loop-i
Inv doc table first stop seen₀ i₀ seen i = Trying doc table first stop i × Seen doc table first stop seen i

abbrev μ : tie.decreases-loop-i
μ doc table first stop seen₀ i₀ seen i = stop - i

abbrev start_of : tie.In-loop-i Inv μ → tie.Start Inv μ
start_of c = let loop = c.before in loop.before.before.before

abbrev turn-of : tie.Else-taken_in Inv μ → tie.In-loop-i Inv μ
turn-of c = c.before.before.before

fit : (c : tie.In-loop-i Inv μ) → let a = (start_of c).args in Fit a.doc.now a.table.now c.before.loop-i.i
fit c = place-fit (start_of c).requires c.before.loop-i.invariant.0.place c.loop-i-test.true

taken_in-requires : tie.Need-taken_in-requires Inv μ
taken_in-requires c κs =
    let fam = (start_of c.before).requires in
    let i = c.before.before.loop-i.invariant in
    (fam, place_here fam i.0.place c.before.loop-i-test.true, seen-fresh i.1 c.class_of-c.ensures.0)

loop-less : tie.Need-loop-i-smaller Inv μ
loop-less c =
    let turn = turn-of c.before in
    omega (arith, c.word-i.ensures, place-on (start_of turn).requires turn.before.loop-i.invariant.0.place turn.loop-i-test.true, turn.loop-i-test.true)

loop-again : tie.Need-loop-i-preserved Inv μ
loop-again c =
    let turn = turn-of c.before in
    let class = c.before.before.before.class_of-c.ensures in
    let fam = (start_of turn).requires in
    let i = turn.before.loop-i.invariant in (
      trying-next fam i.0 turn.loop-i-test.true (rw c.before.if-taken_in.false at c.before.before.taken_in.ensures) _ c.word-i.ensures,
      seen_next fam i.1 class.0 i.0.place turn.loop-i-test.true class.1 _ c.word-i.ensures,
    )

pub few_spec : {M : Type 1} → statement M
few_spec =
    tie.close
    (tie.spec
    Inv
    μ
    (λ c. let fam = c.before.before.requires in (trying_start fam, seen_start fam _ refl))
    (λ c κs. fit c)
    (λ c. c.class_of-c.ensures.1)
    taken_in-requires
    (λ c. let turn = c.before.before.before in trying-hit turn.before.loop-i.invariant.0 (rw c.if-taken_in.true at c.before.taken_in.ensures))
    (λ c. c.before.before.class_of-c.ensures.1)
    (λ c κs. ((fit (turn-of c)).room, omega arith))
    loop-less
    loop-again
    (λ c. trying-end c.before.loop-i.invariant.0 c.loop-i-test.false))
