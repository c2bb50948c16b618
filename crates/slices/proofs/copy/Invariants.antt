-- The first i bytes of the span stand at their place.
-- Assumes nothing.
use Rattle.std.proofs.Common.{◌≡◌}
use Rattle.form.specs.Spans.{part, over}
use Rattle.slices.proofs.copy.Given as goal

abbrev pub invariant-loop-i : goal.invariant-loop-i
invariant-loop-i l = l.out ≡ over l.fn.out l.at (part l.from l.start l.i)
