-- `table::span_fits` meets its contract: the difference spares a sum that might be too large.
-- Assumes nothing.
use Prim.Native.Nat.{◌-◌}
use native.Mathlib.Omega.{arith}
use Rattle.table.proofs.Tests.{says-no, says-leb}
use Rattle.table.proofs.span_fits.Statement.{statement}
use Rattle.table.proofs.span_fits.Tie as tie

returns : tie.Need-returns-then-doc_len-len
returns c = says-no (λ h. let t = c.if-doc_len-len.true in omega arith)

returns-2 : tie.Need-returns
returns-2 c =
    let t = c.if-doc_len-len.false in
    let a = c.before.args in
    says-leb a.start (a.doc_len - a.len) (λ h. omega arith) (λ h. omega arith)

pub span_fits_spec : {M : Type 1} → statement M
span_fits_spec = tie.close (tie.spec returns returns-2)
