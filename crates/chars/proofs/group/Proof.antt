-- Right since a mask of six bits is a remainder, and the bit above it a sum.
-- Assumes nothing.
use lib.Bits.{mask_lt}
use Rattle.chars.proofs.Groups.{grouped}
use native.Mathlib.Omega.{arith}
use Rattle.chars.proofs.group.Statement.{statement}
use Rattle.chars.proofs.group.Tie as tie

pub group_spec : {M : Type 1} → statement M
group_spec = tie.close (tie.spec (λ c. omega (arith, mask_lt c.args.u 6)) (λ c. grouped c.args.u))
