-- The cells before the one at hand hold records of other names.
use Rattle.nbt_siblings.specs.Cells.{Passed}
use Rattle.nbt_siblings.proofs.cells.probe.Given as goal

abbrev pub invariant-loop-k : goal.invariant-loop-k
invariant-loop-k l = Passed l.doc l.table l.i l.from l.k
