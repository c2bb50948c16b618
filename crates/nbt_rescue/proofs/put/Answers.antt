-- The words of the records kept form a table that has room, and what is put of it is the layout of what is kept.
-- Assumes nothing.
use Rattle.std.proofs.Common.{refl, arith}
use Rattle.nbt_rescue.proofs.Cuts.{roomy-fits, put_is}
use Rattle.nbt_rescue.proofs.put.Goals as goal

pub put-requires : goal.put-requires
put-requires c = roomy-fits _ _ _ _ _ _ (λ j. omega (arith, c.type_inv.doc j)) c.requires refl

pub returns : goal.returns
returns c = put_is _ _ _ _ _ _ _ _ (λ j. omega (arith, c.type_inv.doc j)) c.requires.gathered refl c.put.ensures
