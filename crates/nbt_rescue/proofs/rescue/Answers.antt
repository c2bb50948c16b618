-- 31 of what is read, the reader's refusals but 1, and what `cut` answers, with the table cleared.
-- Assumes nothing.
use Rattle.std.proofs.Common.{ap}
use Rattle.nbt_reader.specs.Steps.{read_out}
use Rattle.form.specs.Refusals.{number_of}
use Rattle.nbt_rescue.proofs.Cuts.{number-other, rescue-accepted, rescue-other, read-cut, rescue_cut}
use Rattle.nbt_rescue.proofs.rescue.Goals as goal

-- 31.
pub returns-in-Ok : goal.returns-in-Ok
returns-in-Ok c = rescue-accepted _ _ _ _ _ _ _ (ap read_out c.in-Ok.is) c.read.ensures

-- A document that is cut.
pub cut-saved-requires : goal.cut-saved-requires
cut-saved-requires c = read-cut _ _ _ _ _ (ap read_out c.in-Err.is) c.read.ensures (ap number_of c.in-DataEnds.is)

pub returns-in-DataEnds : goal.returns-in-DataEnds
returns-in-DataEnds c =
    rescue_cut _ _ _ _ _ _ _ (ap read_out c.in-Err.is) c.read.ensures c.cut-saved.new.table _ _ _ _ c.cut-saved.ensures
    c.cut-saved.auto.table c.clear.ensures

-- Another refusal.
pub returns-in_default : goal.returns-in_default
returns-in_default c = rescue-other _ _ _ _ _ _ _ (ap read_out c.in-Err.is) c.read.ensures (number-other _ c.in_default.not-DataEnds)
