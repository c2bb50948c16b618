-- It ends, since the limit rises.
-- Assumes nothing.
use Rattle.std.proofs.Common.{arith}
use Rattle.snbt.proofs.scratch.+stepped.Goals as goal

pub stepped-requires : goal.stepped-requires
stepped-requires t c = (omega arith, (omega arith, omega arith))
