-- The width is the table's, and at most 8.
-- Assumes nothing.
use Rattle.std.proofs.Common.{ap, ◌∙◌}
use Rattle.form.specs.Table.{width_of}
use Rattle.form.proofs.Fields.{width-le}
use Rattle.nbt_fields.proofs.width_of.Goals as goal

pub returns : goal.returns
returns c = (c.width_of.ensures ∙ ap width_of c.from.ensures, rw c.width_of.ensures (width-le c.from.result))
