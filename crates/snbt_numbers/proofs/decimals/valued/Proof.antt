-- `decimals::valued` meets its contract: the exponent less the digits behind the point, by sign and size.
-- Assumes nothing.
use borrow.Author.Rules.{rules}
use mathlib.Core.Path.{◌∙◌}
use Rattle.snbt_numbers.proofs.Powers.{down-sum, up_rest, down-rest, far-down}
use Rattle.snbt_numbers.proofs.decimals.valued.Statement.{statement}
use Rattle.snbt_numbers.proofs.decimals.valued.Tie as tie

pub valued_spec : {M : Type 1} → statement M
valued_spec =
    tie.close
    (tie.spec
    (λ c κs. search rules)
    (λ c place.
    let a = c.args in
    rw c.if-down.true (c.scaled_or_beyond.ensures place ∙ far-down a.negative a.w a.e a.behind place c.if-e-gt22.true))
    (λ c. search rules)
    (λ c κs. search rules)
    (λ c place.
    let a = c.args in
    rw (c.if-down.true, ← down-sum a.e a.behind) (c.scaled_or_beyond-then-down.ensures place))
    (λ c κs. search rules)
    (λ c place.
    let a = c.args in
    rw (c.if-down.false, ← up_rest a.e a.behind c.if-behind-e.true) (c.scaled_or_beyond-then-behind-e.ensures place))
    (λ c. search rules)
    (λ c κs. search rules)
    (λ c place.
    let a = c.args in
    rw (c.if-down.false, ← down-rest a.e a.behind c.if-behind-e.false) (c.scaled_or_beyond-2.ensures place)))
