-- `raw::number_in` meets its contract: of the two numbers it answers with the one in the order that is asked for.
-- Assumes nothing.
use Rattle.std.proofs.Common.{rules}
use Rattle.raw.proofs.number_in.Statement.{statement}
use Rattle.raw.proofs.number_in.Tie as tie

number_by-requires : tie.Need-number_by-highest-requires
number_by-requires c κs = search rules

number_by-requires-2 : tie.Need-number_by-lowest-requires
number_by-requires-2 c κs = search rules

returns : tie.Need-returns-then-little
returns c = rw c.if-little.true c.before.number_by-lowest.ensures

returns-2 : tie.Need-returns-else-little
returns-2 c = rw c.if-little.false c.before.before.number_by-highest.ensures

pub number_in_spec : {M : Type 1} → statement M
number_in_spec = tie.close (tie.spec number_by-requires number_by-requires-2 returns returns-2)
