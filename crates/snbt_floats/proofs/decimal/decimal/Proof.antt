-- `decimal::decimal` meets its contract: the magnitude is rounded by one of the two scalings, and the sign is put on after.
-- Assumes nothing.
use borrow.Author.Rules.{rules}
use mathlib.Core.Path.{◌≡◌, refl, sym, ap, ◌∙◌}
use mathlib.Core.Bool.{Bool, true, false}
use Prim.Native.Nat.{ℕ, zero, suc, ◌*◌, ◌^◌}
use native.Mathlib.Nat.{mul-one}
use lib.IntN.{ℤ, pos, negsuc}
use lib.Ieee.{binary64, round, neg}
use Rattle.snbt_form.specs.Values.{signed}
use Rattle.snbt_form.specs.Values.{nearest_to}
use Rattle.snbt_floats.proofs.Operations.{neg-round}
use Rattle.snbt_floats.proofs.decimal.decimal.Statement.{statement}
use Rattle.snbt_floats.proofs.decimal.decimal.Tie as tie
use Rattle.snbt_floats.proofs.decimal.decimal.Lts.{then-down, else-down}

scaled_down-requires : tie.Need-scaled_down-r-requires
scaled_down-requires c κs = search rules

scaled_up-requires : tie.Need-scaled_up-r-requires
scaled_up-requires c κs = search rules

-- minus the power 0 is the power 0
divided : (w p : ℕ) → round binary64 false w (10 ^ p) ≡ nearest_to false w (signed true p)
divided w zero = ap (λ (x : ℕ). round binary64 false x 1) (sym (mul-one w))
divided w (suc p) = refl

-- at the joining of the two arms: the magnitude is rounded
joined : (c : tie.Joined-down) → c.if-down.r ≡ nearest_to false c.before.args.w (signed c.before.args.down c.before.args.p)
joined c =
    let a = c.before.args in
    elim c.if-down.branch [
      | then-down w ↦ w.r-is ∙ w.scaled_down-r.ensures ∙ divided a.w a.p ∙ ap (λ (b : Bool). nearest_to false a.w (signed b a.p)) (sym w.if-down.true)
      | else-down w ↦ w.r-is ∙ w.scaled_up-r.ensures ∙ ap (λ (b : Bool). nearest_to false a.w (signed b a.p)) (sym w.if-down.false)
    ]

negated : (w : ℕ) (z : ℤ) → neg (nearest_to false w z) ≡ nearest_to true w z
negated w (pos k) = neg-round binary64 (w * 10 ^ k) 1
negated w (negsuc k) = neg-round binary64 w (10 ^ suc k)

returns : tie.Need-returns-then-negative
returns c =
    let a = c.before.before.args in
    let z = signed a.down a.p in
    ap neg (joined c.before) ∙ negated a.w z ∙ ap (λ (b : Bool). nearest_to b a.w z) (sym c.if-negative.true)

returns-2 : tie.Need-returns-else-negative
returns-2 c =
    let a = c.before.before.args in
    let z = signed a.down a.p in
    joined c.before ∙ ap (λ (b : Bool). nearest_to b a.w z) (sym c.if-negative.false)

pub decimal_spec : {M : Type 1} → statement M
decimal_spec = tie.close (tie.spec scaled_down-requires scaled_up-requires returns returns-2)
