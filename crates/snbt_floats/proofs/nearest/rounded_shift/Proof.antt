-- `nearest::rounded_shift` meets its contract: the three cases of the tie rule (request [9]), with the machine's shifts as powers of two.
-- Assumes nothing.
use borrow.Author.Rules.{rules}
use mathlib.Core.Path.{◌≡◌, refl, sym, subst, subst₂, ◌∙◌}
use Prim.Native.Nat.{ℕ, ◌+◌, ◌-◌, ◌*◌, ◌/◌, ◌%◌, ◌^◌, ◌<◌}
use native.Mathlib.Omega.{arith}
use lib.Pow.{pow_pos}
use lib.Ieee.Nearest.{closest}
use Rattle.snbt_floats.specs.Ties.{CaseIs, EvenOf}
use Rattle.snbt_floats.specs.declared.nearest.Case.{Case}
use Rattle.snbt_floats.proofs.Whole.{one_shl, halves, kept_small, rounds-down, rounds-even, rounds-up}
use Rattle.snbt_floats.proofs.nearest.rounded_shift.Statement.{statement}
use Rattle.snbt_floats.proofs.nearest.rounded_shift.Tie as tie

-- what the code calls half, and the power that it divides by
abbrev half : ℕ → ℕ
half d = 1 * 2 ^ (d - 1) % 2 ^ 64

abbrev power : ℕ → ℕ
power d = 1 * 2 ^ d % 2 ^ 64

-- a case by the code's half is that case by the power, of which it is the half
over-power : (n d : ℕ) → 0 < d → d < 64 → (k : Case) → CaseIs (n % power d) (half d) k → CaseIs (n % 2 ^ d * 2) (2 ^ d) k
over-power n d P h k t =
    doubled (n % 2 ^ d) (2 ^ (d - 1)) (2 ^ d) (halves d P) k (subst₂ (λ (x y : ℕ). CaseIs (n % x) y k) (one_shl d h) (one_shl (d - 1) (less d P h)) t)
  where
    less : (d : ℕ) → 0 < d → d < 64 → d - 1 < 64
    less d P h = omega arith

    doubled : (m h b : ℕ) → b ≡ 2 * h → (k : Case) → CaseIs m h k → CaseIs (m * 2) b k
    doubled m h b e Case.BelowHalf t = omega arith
    doubled m h b e Case.AboveHalf t = omega arith
    doubled m h b e Case.OnHalf t = omega arith

-- what each case makes of the kept bits
abbrev Made : Case → ℕ → ℕ → Type 0
Made Case.BelowHalf kept r = r ≡ kept
Made Case.AboveHalf kept r = r ≡ kept + 1
Made Case.OnHalf kept r = EvenOf kept r

-- the tie rule: each case makes the nearest whole number
tie-rule : (n b r : ℕ) (k : Case) → CaseIs (n % b * 2) b k → Made k (n / b) r → r ≡ closest n b
tie-rule n b r Case.BelowHalf t m = m ∙ sym (rounds-down n b t)
tie-rule n b r Case.AboveHalf t m = m ∙ sym (rounds-up n b t)
tie-rule n b r Case.OnHalf t m = even_is (n / b) r m ∙ sym (rounds-even n b t)
  where
    even_is : (kept r : ℕ) → EvenOf kept r → r ≡ kept + kept % 2
    even_is kept r e = omega (arith, e.0, e.1, e.2)

-- ---- the needs
shr-kept : tie.Need-overflow_shr-kept
shr-kept c = search rules

shl-dropped : tie.Need-overflow_shl-dropped
shl-dropped c = search rules

rem-dropped : tie.Need-nonzero_rem-dropped
rem-dropped c = subst (λ (x : ℕ). 0 < x) (sym (one_shl c.args.d c.requires.1)) (pow_pos c.args.d)

sub-half : tie.Need-overflow_sub-half
sub-half c = search rules

cast-half : tie.Need-overflow_cast-half
cast-half c = search rules

shl-half : tie.Need-overflow_shl-half
shl-half c = search rules

-- there is a next number
small : (c : tie.After-case_of) → c.before.args.n / 2 ^ c.before.args.d < 2 ^ 63
small c = let at-start = c.before in kept_small at-start.args.n at-start.args.d at-start.ranges.n.fits at-start.requires.0

add-result : tie.Need-overflow_add-result
add-result c = omega (arith, small c.before)

even_of-requires : tie.Need-even_of-requires
even_of-requires c κs = small c.before

-- what a case makes where it was told, behind `case_of`, is the nearest
rounded : (c : tie.After-case_of) (k : Case) (r : ℕ) → c.case_of.result ≡ k → Made k (c.before.args.n / 2 ^ c.before.args.d) r
    → r ≡ closest c.before.args.n (2 ^ c.before.args.d)
rounded c k r e m =
    let at-start = c.before in
    let n = at-start.args.n in
    let d = at-start.args.d in
    tie-rule n (2 ^ d) r k (over-power n d at-start.requires.0 at-start.requires.1 k (rw e at c.case_of.ensures)) m

returns : tie.Need-returns-in-BelowHalf
returns c = rounded c.before Case.BelowHalf _ c.in-BelowHalf.is refl

returns-2 : tie.Need-returns-in-AboveHalf
returns-2 c = rounded c.before Case.AboveHalf _ c.in-AboveHalf.is refl

returns-3 : tie.Need-returns-in-OnHalf
returns-3 c = let at_told = c.before in rounded at_told.before Case.OnHalf _ at_told.in-OnHalf.is c.even_of.ensures

pub rounded_shift_spec : {M : Type 1} → statement M
rounded_shift_spec =
    tie.close
    (tie.spec
    shr-kept
    shl-dropped
    rem-dropped
    sub-half
    cast-half
    shl-half
    (λ c κs. search rules)
    (λ c. search rules)
    (λ c. search rules)
    add-result
    (λ c. search rules)
    even_of-requires
    returns
    returns-2
    returns-3)
