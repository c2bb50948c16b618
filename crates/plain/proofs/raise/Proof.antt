-- Right by the test.
-- Assumes nothing.
use Rattle.std.proofs.Common.{le-ltb, lt-ltb}
use Rattle.plain.proofs.raise.Statement.{statement}
use Rattle.plain.proofs.raise.Tie as tie

pub raise_spec : {M : Type 1} → statement M
raise_spec =
    tie.close
    (tie.spec
    (λ c. simp (lt-ltb _ _ c.if-top-x.true))  -- returns
    (λ c. simp (le-ltb _ _ c.if-top-x.false)))  -- returns-2
