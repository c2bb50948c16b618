-- `single::single_magnitude` meets its contract: the four ranges of the exponent's field (`Ranges`).
-- Assumes nothing.
use borrow.Author.Rules.{rules}
use mathlib.Core.Path.{sym, ap, ◌∙◌}
use mathlib.Core.Bool.{cond}
use Prim.Native.Nat.{ℕ, ◌+◌, ◌-◌, ◌*◌, ◌/◌, ◌%◌, ◌^◌, ◌<◌, ◌≤◌}
use native.Mathlib.Nat.{lt_of_lt_of_le}
use native.Mathlib.Omega.{arith}
use lib.Pow.{pow_mono, shr_lt}
use Rattle.snbt_floats.proofs.Whole.{closest-le}
use Rattle.snbt_floats.proofs.Ranges.{too_large, too_small, below-normal, in-range}
use Rattle.snbt_floats.proofs.single.single_magnitude.Statement.{statement}
use Rattle.snbt_floats.proofs.single.single_magnitude.Tie as tie

-- what a shift by 30 at least leaves of 53 digits
left_over : (n d : ℕ) → n < 2 ^ 53 → 30 ≤ d → n / 2 ^ d < 2 ^ 23
left_over n d h g = shr_lt 23 d (lt_of_lt_of_le h (pow_mono (room d g)))
  where
    room : (d : ℕ) → 30 ≤ d → 53 ≤ 23 + d
    room d g = omega arith

-- the function starts, from where a single is made
abbrev start_of : tie.Else-field-lt873 → tie.Start
start_of c = c.before.before

returns : tie.Need-returns-then-field-ge1151
returns c s = sym (too_large s c.before.args.b c.before.requires c.if-field-ge1151.true)

returns-2 : tie.Need-returns-then-field-lt873
returns-2 c s = sym (too_small s c.before.before.args.b c.if-field-lt873.true)

cast-result : tie.Need-overflow_cast-result
cast-result c =
    let b = (start_of c.before.before).args.b in
    let n = 2 ^ 52 + b % 2 ^ 52 in
    let d = 926 - b / 2 ^ 52 in
    omega (arith, c.rounded_shift.ensures, closest-le n (2 ^ d), left_over n d (omega arith) (omega arith))

returns-3 : tie.Need-returns-then-field-lt897
returns-3 c s =
    let b = (start_of c.before.before).args.b in
    ap (λ (x : ℕ). cond s (2 ^ 31) 0 + x) c.rounded_shift.ensures ∙ sym (below-normal s b c.before.before.if-field-lt873.false c.before.if-field-lt897.true)

add-result : tie.Need-overflow_add-result
add-result c = omega (arith, c.rounded_shift-2.ensures, closest-le (2 ^ 52 + (start_of c.before.before).args.b % 2 ^ 52) (2 ^ 29))

cast-result-2 : tie.Need-overflow_cast-result-2
cast-result-2 c = omega (arith, c.rounded_shift-2.ensures, closest-le (2 ^ 52 + (start_of c.before.before).args.b % 2 ^ 52) (2 ^ 29))

returns-4 : tie.Need-returns
returns-4 c s =
    let b = (start_of c.before.before).args.b in
    ap (λ (x : ℕ). cond s (2 ^ 31) 0 + ((b / 2 ^ 52 - 897) * 2 ^ 23 + x)) c.rounded_shift-2.ensures
    ∙ sym (in-range s b c.before.if-field-lt897.false c.before.before.before.if-field-ge1151.false)

pub single_magnitude_spec : {M : Type 1} → statement M
single_magnitude_spec =
    tie.close
    (tie.spec
    returns
    returns-2
    (λ c. search rules)  -- add-significand
    (λ c. search rules)  -- sub-places
    (λ c. search rules)  -- cast-places
    (λ c κs. search rules)  -- rounded-shift-requires
    cast-result
    returns-3
    (λ c. search rules)  -- mul-result
    (λ c κs. search rules)  -- rounded-shift-requires-2
    add-result
    cast-result-2
    returns-4)
