-- Right since a shift by six and a mask of six bits are a product and a remainder.
-- Assumes nothing.
use native.Mathlib.Omega.{arith}
use lib.Bits.{mask_lt}
use Rattle.chars.proofs.Groups.{joined}
use Rattle.chars.proofs.join.Statement.{statement}
use Rattle.chars.proofs.join.Tie as tie

pub join_spec : {M : Type 1} → statement M
join_spec =
    tie.close
    (tie.spec
    (λ c. omega (arith, mask_lt c.args.b 6))
    (λ c. joined 6 c.args.hi c.args.b (omega arith)))
