-- `close` meets its contract: the end byte's room decides.
-- Assumes nothing.
use Rattle.std.proofs.Common.{◌+◌, ◌≤◌, length, refl, arith}
use Rattle.slices.proofs.Copies.{set-over-one}
use Rattle.snbt_entries.proofs.Closing.{close-full, close-fits}
use Rattle.snbt_entries.proofs.close.Goals as goal

pub returns-then-out-used : goal.returns-then-out-used
returns-then-out-used c t = let a = c.args in close-full t _ a.index.0 a.next a.used (omega arith)

pub returns : goal.returns
returns c =
    let a = c.args in
    let fits : a.used + 1 ≤ length a.out.now = omega arith in
    ((λ t. close-fits t _ a.index.0 a.next a.used fits), refl, refl, refl, fits, set-over-one a.out.now a.used 0 (omega (arith, fits)))
