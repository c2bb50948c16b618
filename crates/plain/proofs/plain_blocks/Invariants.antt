-- The bytes up to i are plain.
-- Assumes nothing.
use Rattle.std.proofs.Common.{◌≤◌, ◌-◌}
use Rattle.plain.specs.Runs.{Plain}
use Rattle.plain.proofs.plain_blocks.Given as goal

abbrev pub invariant-loop-i : goal.invariant-loop-i
invariant-loop-i l = record { on : l.at ≤ l.i; within : l.i ≤ l.end; plain : Plain l.p l.q l.text l.at l.i }

abbrev pub decreases-loop-i : goal.decreases-loop-i
decreases-loop-i l = l.end - l.i
