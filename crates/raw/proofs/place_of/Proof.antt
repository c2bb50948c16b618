-- `raw::place_of` meets its contract: the place of a digit is computed as it is defined, for either order.
-- Assumes nothing.
use Rattle.std.proofs.Common.{rules}
use Rattle.raw.proofs.Order.{place-big, place-little}
use Rattle.raw.proofs.place_of.Statement.{statement}
use Rattle.raw.proofs.place_of.Tie as tie

sub-result : tie.Need-overflow_sub-result
sub-result c = search rules

sub-result-2 : tie.Need-overflow_sub-result-then-little
sub-result-2 c = search rules

add-result : tie.Need-overflow_add-result
add-result c = search rules

add-result-2 : tie.Need-overflow_add-result-else-little
add-result-2 c = search rules

returns : tie.Need-returns-then-little
returns c = let a = c.before.args in rw c.if-little.true (place-little a.at a.width a.i)

returns-2 : tie.Need-returns-else-little
returns-2 c = let a = c.before.args in rw c.if-little.false (place-big a.at a.width a.i)

pub place_of_spec : {M : Type 1} → statement M
place_of_spec = tie.close (tie.spec sub-result sub-result-2 add-result add-result-2 returns returns-2)
