-- `taken` meets its contract: those before the record at hand do not have the name.
-- Assumes nothing.
use native.Mathlib.Omega.{arith}
use Prim.Native.Nat.{◌-◌}
use Rattle.nbt_siblings.specs.Links.{Fit}
use Rattle.nbt_siblings.proofs.Places.{Asking, asking-start, asking-fit, asking-on, asking-hit, asking-next, asking-end}
use Rattle.nbt_siblings.proofs.classes.taken.Statement.{statement}
use Rattle.nbt_siblings.proofs.classes.taken.Tie as tie

abbrev Inv : tie.invariant-loop-j
Inv doc table first stop i j₀ j = Asking doc table first stop i j

abbrev μ : tie.decreases-loop-j
μ doc table first stop i j₀ j = i - j

abbrev start_of : tie.In-loop-j Inv μ → tie.Start Inv μ
start_of c = let loop = c.before in loop.before.before.before

fit : (c : tie.In-loop-j Inv μ) → let a = (start_of c).args in Fit a.doc.now a.table.now c.before.loop-j.j
fit c = let p = (start_of c).requires in asking-fit p.0 c.before.loop-j.invariant p.1 c.loop-j-test.true

returns : tie.Need-returns-then-twin Inv μ
returns c =
    let turn = c.before.before in
    let p = (start_of turn).requires in
    asking-hit p.0 turn.before.loop-j.invariant p.1 turn.loop-j-test.true (rw c.if-twin.true at c.before.twin.ensures)

loop-less : tie.Need-loop-j-smaller Inv μ
loop-less c =
    let turn = c.before.before.before in
    let p = (start_of turn).requires in
    omega (arith, c.word-j.ensures, asking-on p.0 turn.before.loop-j.invariant p.1 turn.loop-j-test.true, turn.loop-j-test.true)

loop-again : tie.Need-loop-j-preserved Inv μ
loop-again c =
    let other = c.before in
    let turn = other.before.before in
    let p = (start_of turn).requires in
    asking-next p.0 turn.before.loop-j.invariant p.1 turn.loop-j-test.true (rw other.if-twin.false at other.before.twin.ensures) _ c.word-j.ensures

pub taken_spec : {M : Type 1} → statement M
taken_spec =
    tie.close
    (tie.spec
    Inv
    μ
    (λ c. asking-start c.before.before.requires.0 _)
    (λ c κs. let p = (start_of c).requires in (fit c, p.0.fit _ p.1))
    returns
    (λ c κs. ((fit c.before.before).room, omega arith))
    loop-less
    loop-again
    (λ c. asking-end c.before.loop-j.invariant c.loop-j-test.false))
