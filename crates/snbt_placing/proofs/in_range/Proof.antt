-- `in_range` meets its contract: the shift is half of the values, and the range is asked of the magnitude.
-- Assumes nothing.
use borrow.Author.Rules.{rules}
use Prim.Native.Nat.{◌-◌, ◌*◌, ◌%◌, ◌^◌}
use mathlib.Core.Path.{ap, ◌∙◌}
use lib.Dec.{ltb}
use lib.Signed.{mag}
use Rattle.raw.proofs.Signs.{held, half-shifted}
use Rattle.snbt_placing.proofs.Rooms.{range-mag}
use Rattle.snbt_placing.proofs.in_range.Statement.{statement}
use Rattle.snbt_placing.proofs.in_range.Tie as tie

mul-half : tie.Need-overflow_mul-half
mul-half c = search rules

sub-half : tie.Need-overflow_sub-half
sub-half c = search rules

shl-half : tie.Need-overflow_shl-half
shl-half c = search rules

magnitude-requires : tie.Need-magnitude-requires
magnitude-requires c κs = search rules

returns : tie.Need-returns
returns c =
    let a = c.before.args in
    ap (λ m. ltb m (1 * 2 ^ (8 * a.width - 1) % 2 ^ 64)) (c.magnitude.ensures ∙ ap mag (held a.v c.before.well_formed.0))
    ∙ ap (ltb (mag a.v)) (half-shifted a.width c.before.requires.0 c.before.requires.1)
    ∙ range-mag a.width a.v

pub in_range_spec : {M : Type 1} → statement M
in_range_spec = tie.close (tie.spec mul-half sub-half shl-half magnitude-requires returns)
