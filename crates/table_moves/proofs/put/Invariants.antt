-- The other edition's lines of the first i records stand from 0 on.
-- Assumes nothing.
use Rattle.table_stored.specs.Words.{edition_of}
use Rattle.table_moves.proofs.Planting.{Midway}
use Rattle.table_moves.proofs.put.Given as goal

abbrev pub invariant-loop-i : goal.invariant-loop-i
invariant-loop-i l = Midway (edition_of l.nine) l.lines l.n l.i l.initial.out l.out
