-- `decimal::scaled_up` meets its contract: the cast is exact, the power of ten is exact, and their product is rounded once.
-- Assumes nothing.
use borrow.Author.Rules.{rules}
use mathlib.Core.Bool.{false}
use Prim.Native.Nat.{◌^◌}
use lib.Dec.{lit<}
use lib.IntN.{pos}
use lib.Ieee.{binary64, of_int}
use Rattle.snbt_floats.proofs.Operations.{cast-asks, cast-value, mul-values}
use Rattle.snbt_floats.proofs.decimal.scaled_up.Statement.{statement}
use Rattle.snbt_floats.proofs.decimal.scaled_up.Tie as tie

int_to_float-result : tie.Need-int_to_float-result
int_to_float-result c = cast-asks binary64 c.before.args.w c.before.requires.0

ten-requires : tie.Need-ten-requires
ten-requires c κs = search rules

returns : tie.Need-returns
returns c =
    let a = c.before.before in
    mul-values binary64 (of_int binary64 (pos a.args.w)) c.ten.result false false a.args.w 1 (10 ^ a.args.p) 1 (lit< tt) (lit< tt)
    (cast-value binary64 a.args.w a.requires.0)
    c.ten.ensures

pub scaled_up_spec : {M : Type 1} → statement M
scaled_up_spec = tie.close (tie.spec int_to_float-result ten-requires returns)
