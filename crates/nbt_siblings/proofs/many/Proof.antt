-- `many` meets its contract: each way finds the least, and the table is as before.
-- Assumes nothing.
use mathlib.Core.Path.{refl, ap, ◌∙◌}
use lib.ListN.{length}
use borrow.Author.Rules.{rules}
use Rattle.nbt_siblings.proofs.Halves.{family-same, least-same}
use Rattle.nbt_siblings.proofs.many.Statement.{statement}
use Rattle.nbt_siblings.proofs.many.Tie as tie

sorted-requires : tie.Need-sorted-requires
sorted-requires c κs = family-same c.scattered.ensures.0 c.requires

returns-2 : tie.Need-returns-in-At
returns-2 c = (c.scattered.ensures.0, rw c.in-At.is at c.scattered.ensures.1)

returns-3 : tie.Need-returns-in-Nothing
returns-3 c = (c.scattered.ensures.0, rw c.in-Nothing.is at c.scattered.ensures.1)

returns-4 : tie.Need-returns-in-Unknown
returns-4 c = (c.sorted.ensures.0 ∙ c.scattered.ensures.0, least-same c.scattered.ensures.0 _ c.sorted.ensures.1)

pub many_spec : {M : Type 1} → statement M
many_spec =
    tie.close
    (tie.spec
    (λ c κs. c.requires.0)
    (λ c. refl)
    (λ c. (refl, rw c.if-rising.true at c.rising.ensures))
    (λ c κs. c.requires.0)
    (λ c. search rules)
    (λ c. search rules)
    (λ c. search rules)
    sorted-requires
    (λ c. ap length (returns-2 c).0)
    returns-2
    (λ c. ap length (returns-3 c).0)
    returns-3
    (λ c. ap length (returns-4 c).0)
    returns-4)
