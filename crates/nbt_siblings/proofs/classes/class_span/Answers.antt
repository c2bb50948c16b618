use Rattle.std.proofs.Common.{arith}
use Rattle.nbt_siblings.proofs.Bytes.{class-none, class-some}
use Rattle.nbt_siblings.proofs.classes.class_span.Goals as goal

pub returns-then-n-eq0 : goal.returns-then-n-eq0
returns-then-n-eq0 c = (class-none _ _ _ c.requires c.if-n-eq0.true, omega arith)

pub returns : goal.returns
returns c = (class-some _ _ _ c.requires _ _ _ c.if-n-eq0.false c.from-x.ensures c.from-y.ensures c.from-z.ensures, omega arith)
