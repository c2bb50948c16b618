-- The first i bytes stand at the front of the buffer.
-- Assumes nothing.
use Rattle.std.proofs.Common.{◌≡◌}
use Rattle.form.specs.Spans.{over}
use Rattle.lines.specs.Buffers.{firsts}
use Rattle.lines.specs.Digits.{byte_at}
use Rattle.lines.proofs.put_bytes.Given as goal

abbrev pub invariant-loop-i : goal.invariant-loop-i
invariant-loop-i l = l.out ≡ over l.fn.out 0 (firsts (byte_at l.line) l.i)
