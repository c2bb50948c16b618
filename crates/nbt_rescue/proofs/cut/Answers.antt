-- What is gathered is kept; then 32 or 24; what `tight` answers, where the output may be short; or the document, put with no further
-- question.
-- Assumes nothing.
use Rattle.std.proofs.Common.{arith}
use Rattle.nbt_rescue.proofs.Cuts.{cut-root, cut_short, tight-asked, cut-tight, roomy, cut-put}
use Rattle.nbt_rescue.proofs.cut.Goals as goal

-- 32.
pub returns-in_default : goal.returns-in_default
returns-in_default c = let r = c.in_default.ensures in cut-root _ _ _ _ _ _ c.requires r.0.2 r.2

-- 24.
pub returns-then-changes-kept : goal.returns-then-changes-kept
returns-then-changes-kept c =
    cut_short _ _ _ _ _ _ _ _ _ c.in-Some.ensures _ c.most-most.ensures c.gather.auto.lines c.if-changes-kept.true

pub tight-requires : goal.tight-requires
tight-requires c = tight-asked _ _ _ _ _ _ _ _ _ c.in-Some.ensures c.requires c.if-changes-kept.false

-- More lines than were put.
pub returns-then-most-kept : goal.returns-then-most-kept
returns-then-most-kept c =
    cut-tight _ _ _ _ _ _ _ _ _ c.in-Some.ensures _ c.most-most.ensures c.if-most-kept.true _ _ _ c.tight.ensures

pub put-bytes-requires : goal.put-bytes-requires
put-bytes-requires c = roomy _ _ _ _ _ _ _ _ _ c.in-Some.ensures _ c.most-most.ensures c.if-most-kept.false

-- The document is put, and its lines stand in the list already.
pub returns : goal.returns
returns c =
    cut-put _ _ _ _ _ _ _ _ _ c.in-Some.ensures _ c.most-most.ensures c.if-most-kept.false (λ j. omega (arith, c.type_inv.doc j)) _ _
    c.put-bytes.ensures
