-- `table_stored::hop_through` meets its contract: each hop goes from a child to the next, and none is passed twice.
-- Assumes nothing.
use Rattle.std.proofs.Common.{arith}
use Rattle.table.proofs.Children.{hop-none, hop-more, hop-done, hop-broken}
use Rattle.table_stored.proofs.Words.{word-there}
use Rattle.table_stored.proofs.hop_through.Goals as goal

pub loop-j-init : goal.loop-j-init
loop-j-init c = hop-none _ _ _ _ _ _ c.requires.0

pub child_agrees-requires : goal.child_agrees-requires
child_agrees-requires c = c.requires.1 _ c.loop-j-test.true

pub returns-then-not-child_agrees : goal.returns-then-not-child_agrees
returns-then-not-child_agrees c =
    hop-broken _ _ _ _ _ _ _ _ c.loop-j.invariant c.loop-j-test.true (c.child_agrees.ensures.no c.if-not-child_agrees.true)

pub overflow_add-count : goal.overflow_add-count
overflow_add-count c = omega (arith, c.loop-j.invariant.few)

pub word-j-requires : goal.word-j-requires
word-j-requires c = word-there _ _ _ 7 (c.requires.1 _ c.loop-j-test.true) (omega arith)

pub loop-j-smaller : goal.loop-j-smaller
loop-j-smaller c =
    let child = c.child_agrees.ensures.yes c.if-not-child_agrees.false in
    omega (arith, child.on, c.word-j.ensures)

pub loop-j-preserved : goal.loop-j-preserved
loop-j-preserved c =
    let child = c.child_agrees.ensures.yes c.if-not-child_agrees.false in
    hop-more _ _ _ _ _ _ _ _ c.loop-j.invariant c.loop-j-test.true child _ c.word-j.ensures

pub returns : goal.returns
returns c = hop-done _ _ _ _ _ _ _ _ c.loop-j.invariant c.loop-j-test.false
