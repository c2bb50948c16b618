-- `raw::put_in` meets its contract: either side writes in the order that its test says.
-- Assumes nothing.
use Rattle.std.proofs.Common.{rules}
use Rattle.raw.proofs.put_in.Statement.{statement}
use Rattle.raw.proofs.put_in.Tie as tie

put_by-requires : tie.Need-put_by-requires
put_by-requires c κs = search rules

put_by-requires-2 : tie.Need-put_by-requires-else-little
put_by-requires-2 c κs = search rules

same_length : tie.Need-shape_of-d-then-little
same_length c = search rules

returns : tie.Need-returns-then-little
returns c =
    let at-put = c.before.before in
    rw at-put.before.before.if-little.true at-put.put_by.ensures

same_length-2 : tie.Need-shape_of-d-else-little
same_length-2 c = search rules

returns-2 : tie.Need-returns-else-little
returns-2 c =
    let at-put = c.before.before in
    rw at-put.before.before.if-little.false at-put.put_by-else-little.ensures

pub put_in_spec : {M : Type 1} → statement M
put_in_spec = tie.close (tie.spec put_by-requires put_by-requires-2 same_length returns same_length-2 returns-2)
