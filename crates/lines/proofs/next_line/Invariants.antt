-- What has been read of the line stands in the buffer, and what is left of the chunk lies in it after the first turn.
-- Assumes nothing.
use Rattle.std.proofs.Common.{◌<◌}
use Rattle.lines.specs.Chunks.{InChunk}
use Rattle.lines.proofs.Chunks.{Sofar}
use Rattle.lines.proofs.next_line.Given as goal

abbrev pub invariant-loop : goal.invariant-loop
invariant-loop l = Sofar l.fn.line l.line l.len l.long × (0 < l.counter → InChunk l.chunk l.left)
