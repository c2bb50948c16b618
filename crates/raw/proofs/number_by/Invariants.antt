-- n is the number that the first i digits are, and has no more of them.
-- Assumes nothing.
use Rattle.std.proofs.Common.{◌≡◌, ◌^◌, ◌<◌, take}
use Rattle.form.specs.Form.{order_in}
use Rattle.form.specs.Numbers.{value, ordered}
use Rattle.form.specs.Spans.{part}
use Rattle.raw.proofs.number_by.Given as goal

abbrev pub invariant-loop-i : goal.invariant-loop-i
invariant-loop-i l = (l.n ≡ value (take l.i (ordered (order_in l.little) (part l.s l.at l.width)))) × (l.n < 256 ^ l.i)
