-- Where the class was not seen, no earlier record has the name.
use Rattle.std.proofs.Common.{arith}
use Rattle.nbt_siblings.proofs.Seen.{fresh-alone}
use Rattle.nbt_siblings.proofs.classes.taken_in.Goals as goal

pub returns-else-seen : goal.returns-else-seen
returns-else-seen c =
    rw c.if-seen.false (fresh-alone c.requires.0 (λ j. omega (arith, c.type_inv.doc j)) _ (c.requires.2 c.if-seen.false))
