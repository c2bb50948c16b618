-- `sooner` meets its contract.
-- Assumes nothing.
use borrow.Author.Rules.{rules}
use lib.Dec.{ltb}
use Rattle.nbt_siblings.proofs.Orders.{rank_less, rank-more, rank_same, told}
use Rattle.nbt_siblings.proofs.sorting.sooner.Statement.{statement}
use Rattle.nbt_siblings.proofs.sorting.sooner.Tie as tie

returns : tie.Need-returns-in-Less
returns c = rank_less _ _ _ _ c.requires.0.small c.requires.1.small (rw c.in-Less.is at c.names.ensures)

returns-2 : tie.Need-returns-in-Greater
returns-2 c = rank-more _ _ _ _ c.requires.0.small c.requires.1.small (rw c.in-Greater.is at c.names.ensures)

returns-3 : tie.Need-returns-in-Equal
returns-3 c =
    let a = c.args in
    rank_same _ _ _ _ c.requires.0.small c.requires.1.small (rw c.in-Equal.is at c.names.ensures) (ltb a.i a.j) (told a.i a.j)

pub sooner_spec : {M : Type 1} → statement M
sooner_spec =
    tie.close
    (tie.spec (λ c κs. search rules) (λ c. search rules) (λ c. search rules) (λ c. search rules) returns returns-2 returns-3)
