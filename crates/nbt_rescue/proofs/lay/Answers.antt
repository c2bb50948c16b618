-- The writer, given the words of the records kept, gives the layout of what they stand for.
-- Assumes nothing.
use Rattle.std.proofs.Common.{refl, arith}
use Rattle.nbt_rescue.proofs.Cuts.{laid-is}
use Rattle.nbt_rescue.proofs.lay.Goals as goal

pub returns : goal.returns
returns c = laid-is _ _ _ _ _ _ _ _ _ (λ j. omega (arith, c.type_inv.doc j)) c.requires refl c.write.ensures
