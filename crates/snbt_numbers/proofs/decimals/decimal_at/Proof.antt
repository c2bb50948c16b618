-- `decimals::decimal_at` meets its contract: the sign, and the bytes without it.
-- Assumes nothing.
use borrow.Author.Rules.{rules}
use mathlib.Core.Path.{sym, ap₂, ◌∙◌}
use mathlib.Core.Bool.{Bool}
use mathlib.Core.List.{List}
use Prim.Native.Nat.{ℕ}
use Rattle.snbt_form.specs.Numbers.{decimal_of}
use Rattle.snbt_numbers.proofs.Tokens.{unsigned-le, unsigned-part}
use Rattle.snbt_numbers.proofs.decimals.decimal_at.Statement.{statement}
use Rattle.snbt_numbers.proofs.decimals.decimal_at.Tie as tie

pub decimal_at_spec : {M : Type 1} → statement M
decimal_at_spec =
    tie.close
    (tie.spec
    (λ c κs. search rules)
    (λ c κs. search rules)
    (λ c κs.
    (unsigned-le c.args.at c.args.to c.behind_minus-from.result c.args.text.now c.requires.0 c.minus_at-negative.ensures c.behind_minus-from.ensures, c.requires.1))
    (λ c place.
    c.decimal_of.ensures place
    ∙ ap₂ (λ (b : Bool) (l : List ℕ). decimal_of b l place) c.minus_at-negative.ensures
    (sym (unsigned-part c.args.at c.args.to c.behind_minus-from.result c.args.text.now c.requires.0 c.requires.1 c.minus_at-negative.ensures c.behind_minus-from.ensures))))
