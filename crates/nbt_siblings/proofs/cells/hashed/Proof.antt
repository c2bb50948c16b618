-- `hashed` meets its contract.
-- Assumes nothing.
use mathlib.Core.Path.{◌≡◌, ap, ◌∙◌}
use lib.ListN.{length}
use borrow.Author.Rules.{rules}
use Rattle.nbt_siblings.proofs.Halves.{ready-same, joined-two}
use Rattle.nbt_siblings.proofs.cells.hashed.Statement.{statement}
use Rattle.nbt_siblings.proofs.cells.hashed.Tie as tie

same : (c : tie.After-half-odd) → c.half-odd.new.table ≡ c.args.table.now
same c = c.half-odd.ensures.0 ∙ c.half-even.ensures.0

returns : tie.Need-returns
returns c =
    let table = c.half-even.ensures.0 in
    let joined = joined-two _ _ _ _ c.half-even.result c.half-odd.result table c.half-even.ensures.1 c.half-odd.ensures.1 c.lesser.ensures in
    (c.half-odd.ensures.0 ∙ table, joined)

pub hashed_spec : {M : Type 1} → statement M
hashed_spec =
    tie.close
    (tie.spec
    (λ c κs. c.requires)
    (λ c κs. ready-same c.half-even.ensures.0 c.requires)
    (λ c κs. search rules)
    (λ c. ap length (same c.before.before.before))
    returns)
