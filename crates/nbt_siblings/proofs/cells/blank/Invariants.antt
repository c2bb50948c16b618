-- The links before the record at hand are 0.
use Rattle.nbt_siblings.specs.Cells.{Blank}
use Rattle.nbt_siblings.proofs.cells.blank.Given as goal

abbrev pub invariant-loop-k : goal.invariant-loop-k
invariant-loop-k l = Blank l.table l.from l.k
