-- `table::is_container` meets its contract: its two tests are the definition's.
-- Assumes nothing.
use borrow.Author.Tests.{eq-eqb, ne_eqb}
use mathlib.Core.Path.{refl}
use Rattle.table.proofs.is_container.Statement.{statement}
use Rattle.table.proofs.is_container.Tie as tie

returns : tie.Need-returns-then-kind-eq-LIST
returns c = rw (eq-eqb _ _ c.if-kind-eq-LIST.true) refl

returns-2 : tie.Need-returns
returns-2 c = rw (ne_eqb _ _ c.if-kind-eq-LIST.false) refl

pub is_container_spec : {M : Type 1} → statement M
is_container_spec = tie.close (tie.spec returns returns-2)
