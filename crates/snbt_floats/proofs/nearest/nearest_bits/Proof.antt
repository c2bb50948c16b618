-- `nearest::nearest_bits` meets its contract: the sign is a bit of its own, and zero has none.
-- Assumes nothing.
use borrow.Author.Rules.{rules}
use mathlib.Core.Path.{◌≡◌, refl, sym, ap, ◌∙◌}
use mathlib.Core.Bool.{Bool, true, false}
use Prim.Native.Nat.{ℕ, zero, suc, ◌+◌, ◌^◌}
use native.Mathlib.Nat.{add_comm}
use native.Mathlib.Omega.{arith}
use lib.Ieee.{binary64, round, to_bits, of_int}
use Rattle.snbt_form.specs.Values.{signed}
use Rattle.snbt_floats.proofs.Rounded.{sign_bit, unsigned-below}
use Rattle.snbt_floats.proofs.nearest.nearest_bits.Statement.{statement}
use Rattle.snbt_floats.proofs.nearest.nearest_bits.Tie as tie

abbrev bits : Bool → ℕ → ℕ
bits s m = to_bits binary64 (of_int binary64 (signed s m))

zero_bits : 0 ≡ bits true 0
unfolding to_bits round of_int
zero_bits = refl

plain : (m : ℕ) → to_bits binary64 (round binary64 false m 1) ≡ bits false m
unfolding of_int
plain m = refl

minus : (m : ℕ) → (m ≡ 0 → ⊥) → to_bits binary64 (round binary64 false m 1) + 2 ^ 63 ≡ bits true m
unfolding of_int
minus zero h = absurd (h refl)
minus (suc m) h = add_comm (to_bits binary64 (round binary64 false (suc m) 1)) (2 ^ 63) ∙ sym (sign_bit binary64 (suc m) 1)

magnitude_bits-requires : tie.Need-magnitude_bits-bits-requires
magnitude_bits-requires c κs = search rules

returns : tie.Need-returns-then-magnitude-eq0
returns c =
    zero_bits
    ∙ ap (λ (m : ℕ). bits true m) (sym c.if-magnitude-eq0.true)
    ∙ ap (λ (b : Bool). bits b c.before.before.before.args.magnitude) (sym c.before.if-negative.true)

add-result : tie.Need-overflow_add-result
add-result c = omega (arith, c.before.before.magnitude_bits-bits.ensures, unsigned-below binary64 c.before.before.before.args.magnitude 1)

returns-2 : tie.Need-returns-then-negative
returns-2 c =
    let m = c.before.before.before.args.magnitude in
    ap (λ (x : ℕ). x + 2 ^ 63) c.before.before.magnitude_bits-bits.ensures ∙ minus m c.if-magnitude-eq0.false ∙ ap (λ (b : Bool). bits b m) (sym c.before.if-negative.true)

returns-3 : tie.Need-returns
returns-3 c =
    let m = c.before.before.args.magnitude in
    c.before.magnitude_bits-bits.ensures ∙ plain m ∙ ap (λ (b : Bool). bits b m) (sym c.if-negative.false)

pub nearest_bits_spec : {M : Type 1} → statement M
nearest_bits_spec =
    tie.close (tie.spec magnitude_bits-requires returns add-result returns-2 returns-3)
