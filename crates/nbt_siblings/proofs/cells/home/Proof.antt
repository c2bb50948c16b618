-- `home` meets its contract.
-- Assumes nothing.
use native.Mathlib.Omega.{arith}
use mathlib.Core.Path.{refl}
use borrow.Author.Rules.{rules}
use Rattle.nbt_siblings.proofs.Stored.{home_below}
use Rattle.nbt_siblings.proofs.cells.home.Statement.{statement}
use Rattle.nbt_siblings.proofs.cells.home.Tie as tie

pub home_spec : {M : Type 1} → statement M
home_spec =
    tie.close
    (tie.spec
    (λ c. search rules)
    (λ c. search rules)
    (λ c. search rules)
    (λ c. omega (arith, c.requires.1, home_below _ _ c.args.mark c.requires.0))
    (λ c. (refl, home_below _ _ c.args.mark c.requires.0)))
