-- `raw::bits_of` meets its contract: what one more than the magnitude wraps back to zero with is the two's complement, that of -2^63 too.
-- Assumes nothing.
use Rattle.std.proofs.Common.{◌≡◌, ◌+◌, ◌%◌, ◌^◌, true, false, pos, sym, ap, ◌∙◌, subst, arith, w64, to_z, of_z, rules}
use lib.Signed.{mag, le_z}
use Rattle.raw.proofs.Signs.{held, own, bits-low, bits-wrapped}
use Rattle.raw.proofs.bits_of.Statement.{statement}
use Rattle.raw.proofs.bits_of.Tie as tie

-- The argument is what the machine's bits of it stand for.
same : (c : tie.After-magnitude-m) → to_z w64 (of_z w64 c.before.args.v) ≡ c.before.args.v
same c = held c.before.args.v c.before.well_formed.0

-- The magnitude, of the argument itself.
distance : (c : tie.After-magnitude-m) → c.magnitude-m.result ≡ mag c.before.args.v
distance c = c.magnitude-m.ensures ∙ ap mag (same c)

magnitude-requires : tie.Need-magnitude-m-requires
magnitude-requires c κs = search rules

returns : tie.Need-returns-then-v-ge0
returns c =
    let v = c.before.before.args.v in
    let whole : le_z (pos 0) v ≡ true = subst (λ z. le_z (pos 0) z ≡ true) (same c.before) c.if-v-ge0.true in
    distance c.before ∙ sym (own v whole) ∙ (bits-low v whole).1

add-wrapping_sub_u64 : tie.Need-overflow_add-m
add-wrapping_sub_u64 c = omega (arith, distance c.before, c.before.before.well_formed.0)

wrapping_sub_u64-requires : tie.Need-wrapping_sub_u64-requires
wrapping_sub_u64-requires c κs = search rules

returns-2 : tie.Need-returns
returns-2 c =
    let at-magnitude = c.before.before in
    let v = at-magnitude.before.args.v in
    let r = c.wrapping_sub_u64.result in
    let below : le_z (pos 0) v ≡ false = subst (λ z. le_z (pos 0) z ≡ false) (same at-magnitude) c.before.if-v-ge0.false in
    bits-wrapped r v below (omega arith) at-magnitude.before.well_formed.0
    (subst (λ z. (r + (z + 1)) % 2 ^ 64 ≡ 0) (distance at-magnitude) c.wrapping_sub_u64.ensures)

pub bits_of_spec : {M : Type 1} → statement M
bits_of_spec = tie.close (tie.spec magnitude-requires returns add-wrapping_sub_u64 wrapping_sub_u64-requires returns-2)
