use Rattle.std.proofs.Common.{◌∙◌, arith}
use Rattle.nbt_siblings.proofs.Bytes.{mark-few, mark-some, mark-many}
use Rattle.nbt_siblings.proofs.marks.mark_span.Goals as goal

pub returns-in-0-to-3 : goal.returns-in-0-to-3
returns-in-0-to-3 c =
    c.stir.ensures
    ∙ rw (c.byte_or.ensures.0, c.byte_or-in-0-to-3.ensures.0, c.byte_or-in-0-to-3-2.ensures.0) (mark-few _ _ _ c.requires (omega arith))

pub returns-in-4-to-7 : goal.returns-in-4-to-7
returns-in-4-to-7 c =
    c.stir-in-4-to-7.ensures ∙ rw (c.four.ensures.0, c.four-in-4-to-7.ensures.0) (mark-some _ _ _ c.requires (omega arith) (omega arith))

pub returns-in-8-to-15 : goal.returns-in-8-to-15
returns-in-8-to-15 c =
    c.stir-in-8-to-15.ensures
    ∙ rw (c.four-in-8-to-15.ensures.0, c.four-in-8-to-15-2.ensures.0, c.four-in-8-to-15-3.ensures.0, c.four-in-8-to-15-4.ensures.0)
    (mark-many _ _ _ c.requires (omega arith) (omega arith))
