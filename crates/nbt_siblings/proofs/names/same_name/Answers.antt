-- Two names are the same where their numbers are.
use Rattle.std.proofs.Common.{arith}
use Rattle.nbt_siblings.proofs.Numbers.{num-other, num-alike}
use Rattle.nbt_siblings.proofs.Orders.{ordered-other}
use Rattle.nbt_siblings.proofs.names.same_name.Goals as goal

pub returns-in-Equal : goal.returns-in-Equal
returns-in-Equal c = num-alike _ (λ j. omega (arith, c.type_inv.doc j)) _ _ _ _ c.requires.0 c.requires.1 c.in-Equal.ensures

pub returns-in_default : goal.returns-in_default
returns-in_default c = num-other _ _ (ordered-other _ _ _ c.spans.ensures c.in_default.not-Equal)
