-- The number so far, with the bytes from i on behind it, is what was asked for.
use Rattle.std.proofs.Common.{◌≡◌, ◌≤◌}
use Rattle.std.proofs.Math.Seq.{slice}
use Rattle.snbt_numbers.specs.Rows.{cap, digits_of}
use Rattle.snbt_numbers.proofs.digits.digits_from.Given as goal

abbrev pub invariant-loop-i : goal.invariant-loop-i
invariant-loop-i l = record { small : l.n ≤ cap; same : digits_of l.n (slice l.i l.to l.text) ≡ digits_of l.first (slice l.at l.to l.text) }
