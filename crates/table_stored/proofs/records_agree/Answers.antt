-- `table_stored::records_agree` meets its contract: one that does not agree is the answer, and else all do.
-- Assumes nothing.
use Rattle.std.proofs.Common.{below_more, arith}
use Rattle.table.proofs.Tests.{says-yes, says-no}
use Rattle.table_stored.proofs.records_agree.Goals as goal

pub returns-then-not-record_agrees : goal.returns-then-not-record_agrees
returns-then-not-record_agrees c = says-no (λ is. c.record_agrees.ensures.no c.if-not-record_agrees.true (is c.loop-i.i c.loop-i-test.true))

pub loop-i-preserved : goal.loop-i-preserved
loop-i-preserved c = below_more _ _ c.loop-i.invariant (c.record_agrees.ensures.yes c.if-not-record_agrees.false)

pub returns : goal.returns
returns c = says-yes (λ i h. c.loop-i.invariant i (omega arith))
