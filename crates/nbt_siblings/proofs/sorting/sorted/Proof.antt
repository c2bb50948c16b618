-- `sorted` meets its contract: the records are sorted as a list, and compared one with the next while the links are undone.
-- Assumes nothing.
use borrow.Author.Rules.{rules}
use Rattle.nbt_siblings.proofs.Chains.{family-row, family-chain, family-table, family-least}
use Rattle.nbt_siblings.proofs.sorting.sorted.Statement.{statement}
use Rattle.nbt_siblings.proofs.sorting.sorted.Tie as tie

returns : tie.Need-returns
returns c = (family-table c.requires c.sort-run.ensures c.unlink.ensures, family-least c.requires c.sort-run.ensures c.unlink.ensures)

pub sorted_spec : {M : Type 1} → statement M
sorted_spec =
    tie.close
    (tie.spec
    (λ c κs. family-row c.requires)
    (λ c κs. family-chain c.requires c.sort-run.ensures)
    (λ c. search rules)
    returns)
