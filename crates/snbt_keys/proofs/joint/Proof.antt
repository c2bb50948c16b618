-- `snbt_keys::joint` meets its contract.
-- Assumes nothing.
use borrow.Author.Rules.{rules}
use Rattle.snbt_keys.proofs.Runs.{joint-is}
use Rattle.snbt_keys.proofs.joint.Statement.{statement}
use Rattle.snbt_keys.proofs.joint.Tie as tie

pub joint_spec : {M : Type 1} → statement M
joint_spec = tie.close (tie.spec (λ c. search rules) (λ c. search rules) (λ c. search rules) (λ c. joint-is _ _))
