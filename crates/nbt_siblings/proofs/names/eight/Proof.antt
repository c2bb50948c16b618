-- `eight` meets its contract.
-- Assumes nothing.
use native.Mathlib.Omega.{arith}
use Rattle.nbt_siblings.specs.Links.{eight_of}
use borrow.Author.Rules.{rules}
use Rattle.nbt_siblings.proofs.names.eight.Statement.{statement}
use Rattle.nbt_siblings.proofs.names.eight.Tie as tie

returns : tie.Need-returns
unfolding eight_of
returns c = omega (arith, c.four-2.ensures.0, c.before.four.ensures.0)

pub eight_spec : {M : Type 1} → statement M
eight_spec =
    tie.close (tie.spec (λ c κs. search rules) (λ c. search rules) (λ c. search rules) (λ c κs. search rules) (λ c. search rules) returns)
