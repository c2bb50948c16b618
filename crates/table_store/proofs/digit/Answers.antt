-- `table_store::digit` meets its contract: the number lies in one of two ranges.
-- Assumes nothing.
use Rattle.std.proofs.Common.{arith}
use mathlib.Core.Logic.{⊎_elim}
use Rattle.form.proofs.Picks.{lt-or}
use Rattle.form.proofs.Stored.{low_digit, high_digit}
use Rattle.table_store.proofs.digit.Goals as goal

pub returns : goal.returns
returns c =
    let n = c.args.n in
    ⊎_elim (λ low. omega (arith, low_digit n low)) (λ high. omega (arith, c.requires, high_digit n high)) (lt-or n 10)
