-- The hops so far go from a child to the next.
-- Assumes nothing.
use Rattle.std.proofs.Common.{◌-◌}
use Rattle.table.proofs.Children.{Hopped}
use Rattle.table_stored.specs.Words.{edition_of, line_word}
use Rattle.table_stored.proofs.hop_through.Given as goal

abbrev pub invariant-loop-j : goal.invariant-loop-j
invariant-loop-j l = Hopped (line_word (edition_of l.nine) l.lines) l.nine l.list l.parent l.end l.from l.j l.count

abbrev pub decreases-loop-j : goal.decreases-loop-j
decreases-loop-j l = l.end - l.j
