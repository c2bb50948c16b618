-- `raw::magnitude` meets its contract: an integer from 0 on is its own magnitude, and -1 less a negative one is its.
-- Assumes nothing.
use Rattle.std.proofs.Common.{◌≡◌, true, false, T, pos, negsuc, ◌-ℤ◌, nat_abs, sym, ap, ◌∙◌, subst, arith, w64, Fits, SFits, to_z, of_z}
use lib.Signed.{mag, le_z, non_neg}
use Rattle.raw.proofs.Signs.{held, own, mag-fits, bits-low, minus-below}
use Rattle.raw.proofs.magnitude.Statement.{statement}
use Rattle.raw.proofs.magnitude.Tie as tie

-- The argument is what the machine's bits of it stand for.
same : (c : tie.Start) → to_z w64 (of_z w64 c.args.v) ≡ c.args.v
same c = held c.args.v c.well_formed.0

-- The tests, of the argument itself.
whole : (c : tie.Then-v-ge0) → le_z (pos 0) c.before.args.v ≡ true
whole c = subst (λ z. le_z (pos 0) z ≡ true) (same c.before) c.if-v-ge0.true

-- The other test.
below : (c : tie.Else-v-ge0) → le_z (pos 0) c.before.args.v ≡ false
below c = subst (λ z. le_z (pos 0) z ≡ false) (same c.before) c.if-v-ge0.false

-- -1 less a negative integer.
minus : (c : tie.Else-v-ge0) → negsuc 0 -ℤ to_z w64 (of_z w64 c.before.args.v) ≡ pos (mag c.before.args.v)
minus c = ap (λ z. negsuc 0 -ℤ z) (same c.before) ∙ minus-below c.before.args.v (below c)

-- An i64 holds it.
kept : (c : tie.Else-v-ge0) → to_z w64 (of_z w64 (negsuc 0 -ℤ to_z w64 (of_z w64 c.before.args.v))) ≡ pos (mag c.before.args.v)
kept c = ap (λ z. to_z w64 (of_z w64 z)) (minus c) ∙ held (pos (mag c.before.args.v)) c.before.well_formed.0

cast-result : tie.Need-overflow_cast-result
cast-result c =
    subst (λ z. T (non_neg z) × Fits w64 (nat_abs z)) (sym (same c.before))
    ((bits-low c.before.args.v (whole c)).0, mag-fits c.before.args.v c.before.well_formed.0)

returns : tie.Need-returns-then-v-ge0
returns c = ap nat_abs (same c.before) ∙ own c.before.args.v (whole c)

sub-result : tie.Need-overflow_sub-result
sub-result c = subst (λ z. SFits w64 z) (sym (minus c)) (record { sfits = c.before.well_formed.0 })

cast-result-2 : tie.Need-overflow_cast-result-2
cast-result-2 c =
    let g = c.before.well_formed.0 in
    subst (λ z. T (non_neg z) × Fits w64 (nat_abs z)) (sym (kept c)) (tt, omega (arith, g))

returns-2 : tie.Need-returns
returns-2 c = ap nat_abs (kept c)

pub magnitude_spec : {M : Type 1} → statement M
magnitude_spec = tie.close (tie.spec cast-result returns sub-result cast-result-2 returns-2)
