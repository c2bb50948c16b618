-- 13, or the document, and the lines when they are gathered once more.
-- Assumes nothing.
use Rattle.std.proofs.Common.{ap}
use Rattle.nbt_writer.specs.Steps.{answer_out}
use Rattle.nbt_rescue.proofs.Cuts.{tight-full, tight-saved}
use Rattle.nbt_rescue.proofs.tight.Goals as goal

pub returns-in-Err : goal.returns-in-Err
returns-in-Err c = tight-full _ _ _ _ _ _ _ c.requires _ _ c.lay.ensures _ _ _ (ap answer_out c.in-Err.is)

pub returns-in-Ok : goal.returns-in-Ok
returns-in-Ok c =
    tight-saved _ _ _ _ _ _ _ c.requires _ _ c.lay.ensures _ (ap answer_out c.in-Ok.is)
    c.lay.new.table _ _ c.lay.auto.table c.gather.result c.gather.ensures
