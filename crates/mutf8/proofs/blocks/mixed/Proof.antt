-- Right by `blocks`, which begins at an edge.
-- Assumes nothing.
use borrow.Author.Rules.{rules}
use Rattle.mutf8.proofs.Alike.{passed_none}
use Rattle.mutf8.proofs.blocks.mixed.Statement.{statement}
use Rattle.mutf8.proofs.blocks.mixed.Tie as tie

abbrev start_of : tie.After-is_edge → tie.Start
start_of c = c.before.before.before

pub mixed_spec : {M : Type 1} → statement M
mixed_spec =
    tie.close
    (tie.spec
    (λ c. passed_none _ _ c.before.before.requires)
    (λ c κs. search rules)
    (λ c κs. (c.before.is_edge.ensures c.if-is_edge.true, (start_of c.before).requires))
    (λ c. search rules)
    (λ c. passed_none _ _ (start_of c.before).requires))
