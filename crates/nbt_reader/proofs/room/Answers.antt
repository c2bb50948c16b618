-- The room is the definition's.
-- Assumes nothing.
use Rattle.std.proofs.Common.{rules}
use Rattle.form.specs.Reading.{room_of}
use Rattle.nbt_reader.proofs.room.Goals as goal

pub returns : goal.returns
unfolding room_of
returns c = search rules
