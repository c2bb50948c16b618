-- The links before the record at hand are 0.
use Rattle.nbt_siblings.specs.Cells.{Wiped}
use Rattle.nbt_siblings.proofs.cells.wipe.Given as goal

abbrev pub invariant-loop-k : goal.invariant-loop-k
invariant-loop-k l = Wiped l.initial.table l.table l.from l.k
