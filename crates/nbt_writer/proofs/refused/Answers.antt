use Rattle.form.specs.Form.{way_no}
use Rattle.nbt_writer.proofs.Characters.{answer-bad, answer-other}
use Rattle.nbt_writer.proofs.refused.Goals as goal

pub returns-in-BadString : goal.returns-in-BadString
returns-in-BadString c = rw c.in-BadString.is (answer-bad (way_no c.args.way) c.args.doc.now c.args.table.now c.args.n c.bad_place.ensures)

pub returns-in_default : goal.returns-in_default
returns-in_default c = answer-other (way_no c.args.way) c.args.doc.now c.args.table.now c.args.n c.args.refusal c.in_default.not-BadString
