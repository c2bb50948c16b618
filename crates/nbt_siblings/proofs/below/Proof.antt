-- `below` meets its contract.
-- Assumes nothing.
use mathlib.Core.Path.{sym}
use Rattle.nbt_siblings.proofs.Answers.{found_at, found_nothing}
use Rattle.nbt_siblings.proofs.below.Statement.{statement}
use Rattle.nbt_siblings.proofs.below.Tie as tie

pub below_spec : {M : Type 1} → statement M
below_spec = tie.close (tie.spec (λ c. sym (found_at _ _ c.if-low-stop.true)) (λ c. sym (found_nothing _ _ c.if-low-stop.false)))
