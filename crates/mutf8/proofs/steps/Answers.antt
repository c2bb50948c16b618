-- Right since each turn reads one value more, and the answer is where none was read or the stop was reached.
-- Assumes nothing.
use Rattle.std.proofs.Common.{arith}
use Rattle.form.specs.Form.{form_no}
use Rattle.mutf8.specs.Runs.{none}
use Rattle.plain.proofs.Plains.{zero_is}
use Rattle.mutf8.proofs.Walks.{walked_more, reach}
use Rattle.mutf8.proofs.Alike.{walked-plain}
use Rattle.mutf8.proofs.steps.Goals as goal

pub loop-i-init : goal.loop-i-init
loop-i-init c = (omega arith, c.requires.0, none)

pub loop-i-preserved-then-unplain-eq0 : goal.loop-i-preserved-then-unplain-eq0
loop-i-preserved-then-unplain-eq0 c =
    let plain = zero_is _ _ _ _ c.unplain.ensures c.if-unplain-eq0.true in
    (omega arith, omega arith, walked-plain (form_no c.args.form).strings _ _ _ (omega arith) plain c.loop-i.invariant.2)

pub overflow_add-i-in-loop-i : goal.overflow_add-i-in-loop-i
overflow_add-i-in-loop-i c = let r = reach (form_no c.args.form).strings c.args.s.now _ _ _ c.in-Some.ensures in omega (arith, r.1)

pub loop-i-smaller : goal.loop-i-smaller
loop-i-smaller c = let r = reach (form_no c.args.form).strings c.args.s.now _ _ _ c.in-Some.ensures in omega (arith, r.0)

pub loop-i-preserved : goal.loop-i-preserved
loop-i-preserved c =
    let r = reach (form_no c.args.form).strings c.args.s.now _ _ _ c.in-Some.ensures in
    (omega (arith, c.loop-i.invariant.0, r.0), r.1, walked_more (form_no c.args.form).strings c.args.s.now _ _ _ _ c.in-Some.ensures c.loop-i.invariant.2)
