-- What the slice will be, once the digits left are written, stays the same.
-- Assumes nothing.
use Rattle.std.proofs.Common.{◌≡◌, ◌-◌}
use Rattle.form.specs.Form.{order_in}
use Rattle.form.specs.Numbers.{bytes_in}
use Rattle.form.specs.Spans.{over}
use Rattle.raw.proofs.Turns.{finished}
use Rattle.raw.proofs.put_by.Given as goal

abbrev pub invariant-loop-done : goal.invariant-loop-done
invariant-loop-done l = finished (order_in l.little) l.d l.at l.width (l.width - l.done) l.rest ≡ over l.fn.d l.at (bytes_in (order_in l.little) l.width l.v)
