-- `wholes::signed_i64` meets its contract: minus one less the magnitude's predecessor, which an i64 holds.
-- Assumes nothing.
use borrow.Author.Rules.{rules}
use borrow.Author.Tests.{leb-true}
use mathlib.Core.Path.{◌≡◌, refl, sym, ap, ◌∙◌, subst}
use mathlib.Core.Bool.{Bool, true, false}
use Prim.Native.Nat.{ℕ, zero, suc, ◌+◌, ◌-◌, ◌^◌, ◌≤◌, ◌<◌}
use native.Mathlib.Omega.{arith}
use lib.Dec.{leb}
use lib.IntN.{ℤ, pos, negsuc, ◌-ℤ◌}
use mir.Syntax.{w64}
use mir.Val.{to_z, of_z, SFits}
use mir.ValLaws.{to_z_pos, to_z-of_z}
use Rattle.form.specs.Answer.{pick}
use Rattle.snbt_form.specs.Values.{signed}
use Rattle.snbt_numbers.proofs.wholes.signed_i64.Statement.{statement}
use Rattle.snbt_numbers.proofs.wholes.signed_i64.Tie as tie

-- the range, by the sign
most : (s : Bool) (m : ℕ) → leb m (pick s (2 ^ 63) (2 ^ 63 - 1)) ≡ true → s ≡ true → m ≤ 2 ^ 63
most s m e t = leb-true m (2 ^ 63) (subst (λ (b : Bool). leb m (pick b (2 ^ 63) (2 ^ 63 - 1)) ≡ true) t e)

under : (s : Bool) (m : ℕ) → leb m (pick s (2 ^ 63) (2 ^ 63 - 1)) ≡ true → s ≡ false → m < 2 ^ 63
under s m e t = let h : m ≤ 2 ^ 63 - 1 = leb-true m (2 ^ 63 - 1) (subst (λ (b : Bool). leb m (pick b (2 ^ 63) (2 ^ 63 - 1)) ≡ true) t e) in omega arith

minus_one : (m : ℕ) → negsuc 0 -ℤ pos m ≡ negsuc m
minus_one zero = refl
minus_one (suc k) = let e : suc (0 + k) ≡ suc k = omega arith in ap negsuc e

negated : (m : ℕ) → m - 1 < 2 ^ 63 → negsuc 0 -ℤ to_z w64 (m - 1) ≡ negsuc (m - 1)
negated m h = ap (λ (z : ℤ). negsuc 0 -ℤ z) (to_z_pos w64 (m - 1) h) ∙ minus_one (m - 1)

is-minus : (m : ℕ) → (m ≡ 0 → ⊥) → negsuc (m - 1) ≡ signed true m
is-minus zero h = absurd (h refl)
is-minus (suc k) h = let e : suc k - 1 ≡ k = omega arith in ap negsuc e

small : (c : tie.Else-m-eq0) → c.args.m - 1 < 2 ^ 63
small c = omega (arith, most c.args.negative c.args.m c.requires c.if-negative.true, c.if-m-eq0.false)

returns-2 : tie.Need-returns-then-negative
returns-2 c =
    let m = c.args.m in
    ap (λ (z : ℤ). to_z w64 (of_z w64 z)) (negated m (small c))
    ∙ to_z-of_z w64 (negsuc (m - 1)) (record { sfits = small c })
    ∙ is-minus m c.if-m-eq0.false
    ∙ ap (λ (b : Bool). signed b m) (sym c.if-negative.true)

returns-3 : tie.Need-returns
returns-3 c =
    to_z_pos w64 c.args.m (under c.args.negative c.args.m c.requires c.if-negative.false) ∙ ap (λ (b : Bool). signed b c.args.m) (sym c.if-negative.false)

pub signed_i64_spec : {M : Type 1} → statement M
signed_i64_spec =
    tie.close
    (tie.spec
    (λ c. simp (c.if-negative.true, c.if-m-eq0.true))
    (λ c. search rules)
    (λ c. record { sfits = small c })
    (λ c. subst (λ (z : ℤ). SFits w64 z) (sym (negated c.args.m (small c))) (record { sfits = small c }))
    returns-2
    (λ c. record { sfits = under c.args.negative c.args.m c.requires c.if-negative.false })
    returns-3)
