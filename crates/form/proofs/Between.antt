-- Laws of ways from one form into another (02, [2]).
-- Assumes nothing.
use Prim.Native.Nat.{ℕ, ◌+◌, ◌*◌, ◌/◌, ◌%◌, ◌<◌}
use mathlib.Core.Bool.{Bool, true, false, ◌&&◌, beq}
use mathlib.Core.Path.{◌≡◌, refl, ap, ◌∙◌}
use native.Mathlib.Omega.{arith}
use Rattle.form.specs.Answer.{pick}
use Rattle.form.specs.Form.{utf8, modified, order_in, form_no, way_from, way_no, same_order, same_rule}

-- Two orders are the same where both numbers, or neither, name the pocket edition's.
pub order_is : (a b : Bool) → beq a b ≡ same_order (order_in a) (order_in b)
order_is true true = refl
order_is true false = refl
order_is false true = refl
order_is false false = refl

-- And so are two rules.
pub rule-is : (a b : Bool) → beq a b ≡ same_rule (pick a utf8 modified) (pick b utf8 modified)
rule-is true true = refl
rule-is true false = refl
rule-is false true = refl
rule-is false false = refl

-- So that both are at once.
pub form-is : (a b : Bool) → beq a b ≡ (same_order (order_in a) (order_in b) && same_rule (pick a utf8 modified) (pick b utf8 modified))
form-is true true = refl
form-is true false = refl
form-is false true = refl
form-is false false = refl

-- Two numbers below 256 in one are found again.
pub way-is : (a b c d : ℕ) → b < 256 → form_no b ≡ form_no d → form_no a ≡ form_no c → way_no (a * 256 + b) ≡ way_from (form_no d) (form_no c)
way-is a b c d l p q =
    let low : (a * 256 + b) % 256 ≡ b = omega arith in
    let high : (a * 256 + b) / 256 ≡ a = omega arith in
    λ i. way_from ((ap form_no low ∙ p) i) ((ap form_no high ∙ q) i)
