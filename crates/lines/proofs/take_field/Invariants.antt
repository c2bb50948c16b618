-- The first n bytes from `from` on are of the field and stand at the buffer's front.
-- Assumes nothing.
use Rattle.std.proofs.Common.{◌≡◌, ◌+◌, drop, take}
use Rattle.lines.proofs.Fields.{Sofar}
use Rattle.lines.proofs.take_field.Given as goal

abbrev pub invariant-loop-i : goal.invariant-loop-i
invariant-loop-i l = (l.i ≡ l.from + l.n) × Sofar (drop l.from (take l.len l.line)) l.fn.field l.field l.n
