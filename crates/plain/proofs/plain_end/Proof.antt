-- Right since nothing is passed where the first byte is not plain.
-- Assumes nothing.
use Rattle.std.proofs.Common.{arith, rules}
use Rattle.plain.proofs.Plains.{plain-none}
use Rattle.plain.proofs.plain_end.Statement.{statement}
use Rattle.plain.proofs.plain_end.Tie as tie

pub plain_end_spec : {M : Type 1} → statement M
plain_end_spec =
    tie.close
    (tie.spec
    (λ c. (omega arith, omega arith, plain-none _ _ _ _ _ (omega arith)))  -- returns
    (λ c. omega arith)  -- shared-slice-read-unplain
    (λ c κs. search rules)  -- unplain-requires
    (λ c κs. search rules)  -- plain-from-requires
    (λ c. c.plain_from.ensures)  -- returns-2
    (λ c. (omega arith, omega arith, plain-none _ _ _ _ _ (omega arith))))  -- returns-3
