-- A table without room is the definition's first test.
-- Assumes nothing.
use Rattle.std.proofs.Common.{refl, arith}
use Rattle.form.proofs.Payloads.{payload-full}
use Rattle.nbt_reader.proofs.root.Goals as goal

pub returns-then-cap-eq0 : goal.returns-then-cap-eq0
returns-then-cap-eq0 c = (payload-full _ _ _ _ _ _ _ _ _ (omega (arith, c.room-cap.ensures, c.if-cap-eq0.true)), refl)
