-- v is the number of the first bytes.
-- Assumes nothing.
use Rattle.std.proofs.Common.{◌≡◌, ◌≤◌, take}
use Rattle.lines.specs.Fields.{too_many, decimal_of}
use Rattle.lines.proofs.decimal.Given as goal

abbrev pub invariant-loop-b : goal.invariant-loop-b
invariant-loop-b l = (l.v ≤ too_many) × (l.v ≡ decimal_of (take l.b-index l.field))
