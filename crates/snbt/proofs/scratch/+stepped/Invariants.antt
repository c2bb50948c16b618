-- The limit rises up to the most bytes of a text.
-- Assumes nothing.
use Rattle.std.proofs.Common.{◌-◌}
use Rattle.snbt.proofs.scratch.+stepped.Given as goal

abbrev pub decreases-stepped : goal.decreases-stepped
decreases-stepped l = 1048576 - l.limit
