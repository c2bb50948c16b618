-- `admits` meets its contract: its two tests, in their order.
-- Assumes nothing.
use Rattle.std.proofs.Common.{refl, sym}
use Rattle.snbt_placing.specs.Done.{admits}
use Rattle.snbt_placing.proofs.admits.Goals as goal

pub returns-then-not-is_alike : goal.returns-then-not-is_alike
unfolding admits
returns-then-not-is_alike c p = rw (sym c.if-not-is_alike.ensures) refl

pub returns-then-not-has_room : goal.returns-then-not-has_room
unfolding admits
returns-then-not-has_room c p = rw (sym c.if-not-is_alike.ensures, sym c.if-not-has_room.ensures) refl

pub returns : goal.returns
unfolding admits
returns c p = rw (sym c.if-not-is_alike.ensures, sym c.if-not-has_room.ensures) refl
