-- i numbers were written.
-- Assumes nothing.
use Rattle.std.proofs.Common.{◌≡◌, drop}
use Rattle.form.specs.Form.{way_no}
use Rattle.form.specs.Spans.{over}
use Rattle.recode.specs.Steps.{each_number}
use Rattle.recode.proofs.put_turned.Given as goal

abbrev pub invariant-loop-i : goal.invariant-loop-i
invariant-loop-i l = l.out ≡ over l.fn.out l.at (each_number (way_no l.way) l.width l.i (drop l.start l.doc))
