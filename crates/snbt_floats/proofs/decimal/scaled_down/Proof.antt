-- `decimal::scaled_down` meets its contract: the cast is exact, the power of ten is exact, and their quotient is rounded once.
-- Assumes nothing.
use borrow.Author.Rules.{rules}
use mathlib.Core.Path.{ap₂, ◌∙◌}
use mathlib.Core.Bool.{false}
use Prim.Native.Nat.{ℕ, ◌^◌}
use native.Mathlib.Nat.{mul-one, one-mul}
use lib.Dec.{lit<}
use lib.IntN.{pos}
use lib.Ieee.{binary64, of_int, round}
use Rattle.snbt_floats.proofs.Operations.{cast-asks, cast-value, div-values, ten-pos}
use Rattle.snbt_floats.proofs.decimal.scaled_down.Statement.{statement}
use Rattle.snbt_floats.proofs.decimal.scaled_down.Tie as tie

int_to_float-result : tie.Need-int_to_float-result
int_to_float-result c = cast-asks binary64 c.before.args.w c.before.requires.0

ten-requires : tie.Need-ten-requires
ten-requires c κs = search rules

returns : tie.Need-returns
returns c =
    let a = c.before.before in
    div-values binary64 (of_int binary64 (pos a.args.w)) c.ten.result false false a.args.w 1 (10 ^ a.args.p) 1 (lit< tt) (lit< tt) (ten-pos a.args.p)
    (cast-value binary64 a.args.w a.requires.0)
    c.ten.ensures
    ∙ ap₂ (λ (x y : ℕ). round binary64 false x y) (mul-one a.args.w) (one-mul (10 ^ a.args.p))

pub scaled_down_spec : {M : Type 1} → statement M
scaled_down_spec = tie.close (tie.spec int_to_float-result ten-requires returns)
