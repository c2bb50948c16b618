-- What was passed ends at an edge.
-- Assumes nothing.
use Rattle.std.proofs.Common.{◌≤◌, length}
use Rattle.mutf8.specs.Runs.{Edge, Passed}
use Rattle.mutf8.proofs.blocks.blocks.Given as goal

abbrev pub invariant-loop : goal.invariant-loop
invariant-loop l = record { within : l.i ≤ length l.s; edge : Edge l.s l.i; passed : Passed l.s l.at l.i }
