-- `table::hop_through` meets its contract: each hop goes from a child to the next, and none is passed twice.
-- Assumes nothing.
use Prim.Native.Nat.{◌-◌}
use native.Mathlib.Omega.{arith}
use mathlib.Core.Bool.{true}
use Rattle.form.specs.Table.{word}
use Rattle.table.proofs.Children.{Hopped, hop-none, hop-more, hop-done, hop-broken}
use Rattle.table.proofs.hop_through.Statement.{statement}
use Rattle.table.proofs.hop_through.Tie as tie

abbrev invariant-loop : tie.invariant-loop-j
invariant-loop table parent from end list j₀ count₀ j count = Hopped (word table) true list parent end from j count

abbrev decreases-loop : tie.decreases-loop-j
decreases-loop table parent from end list j₀ count₀ j count = end - j

loop-holds : tie.Need-loop-j-init invariant-loop decreases-loop
loop-holds c = hop-none _ _ _ _ _ _ c.before.requires.0

returns : tie.Need-returns-then-not-child_agrees invariant-loop decreases-loop
returns c = hop-broken _ _ _ _ _ _ _ _ c.before.before.before.loop-j.invariant c.before.before.loop-j-test.true (c.before.child_agrees.ensures.no (c.if-not-child_agrees.true))

add-count : tie.Need-overflow_add-count invariant-loop decreases-loop
add-count c = let few = c.before.before.before.loop-j.invariant.few in omega arith

loop-less : tie.Need-loop-j-smaller invariant-loop decreases-loop
loop-less c =
    let on = (c.before.before.child_agrees.ensures.yes (c.before.if-not-child_agrees.false)).on in
    let e = c.word-j.ensures in
    omega arith

loop-again : tie.Need-loop-j-preserved invariant-loop decreases-loop
loop-again c =
    let in-loop = c.before.before.before in
    let at-loop = in-loop.before in
    hop-more _ _ _ _ _ _ _ _ at-loop.loop-j.invariant in-loop.loop-j-test.true
    (c.before.before.child_agrees.ensures.yes (c.before.if-not-child_agrees.false)) _ c.word-j.ensures

returns-2 : tie.Need-returns invariant-loop decreases-loop
returns-2 c = hop-done _ _ _ _ _ _ _ _ c.before.loop-j.invariant c.loop-j-test.false

pub hop_through_spec : {M : Type 1} → statement M
hop_through_spec =
    tie.close
    (tie.spec
    invariant-loop
    decreases-loop
    loop-holds
    (λ c κs. omega arith)
    returns
    add-count
    (λ c κs. (omega arith, omega arith))
    loop-less
    loop-again
    returns-2)
