-- `table::is_array` meets its contract: its three tests are the definition's.
-- Assumes nothing.
use borrow.Author.Tests.{eq-eqb, ne_eqb}
use mathlib.Core.Path.{refl}
use Rattle.table.proofs.is_array.Statement.{statement}
use Rattle.table.proofs.is_array.Tie as tie

returns : tie.Need-returns-then-kind-eq-BYTE_ARRAY
returns c = rw (eq-eqb _ _ c.if-kind-eq-BYTE_ARRAY.true) refl

returns-2 : tie.Need-returns-then-kind-eq-INT_ARRAY
returns-2 c = rw (ne_eqb _ _ c.before.if-kind-eq-BYTE_ARRAY.false, eq-eqb _ _ c.if-kind-eq-INT_ARRAY.true) refl

returns-3 : tie.Need-returns
returns-3 c = rw (ne_eqb _ _ c.before.if-kind-eq-BYTE_ARRAY.false, ne_eqb _ _ c.if-kind-eq-INT_ARRAY.false) refl

pub is_array_spec : {M : Type 1} → statement M
is_array_spec = tie.close (tie.spec returns returns-2 returns-3)
