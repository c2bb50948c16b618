-- Right by the two tests.
-- Assumes nothing.
use borrow.Author.Rules.{rules}
use mathlib.Core.Path.{sym}
use Rattle.form.proofs.Picks.{differ}
use Rattle.mutf8.proofs.blocks.is_edge.Statement.{statement}
use Rattle.mutf8.proofs.blocks.is_edge.Tie as tie

pub is_edge_spec : {M : Type 1} → statement M
is_edge_spec =
    tie.close
    (tie.spec
    (λ c. search rules)
    (λ c. search rules)
    (λ c. λ e. differ (sym e))
    (λ c. search rules)
    (λ c. search rules)
    (λ c. λ e. differ (sym e))
    (λ c. search rules))
