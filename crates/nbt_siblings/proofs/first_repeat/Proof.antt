-- `first_repeat` meets its contract: one record has no earlier twin; a few are compared each with those before it; of more the least that has
-- one is sought.
-- Assumes nothing.
use native.Mathlib.Omega.{arith}
use mathlib.Core.Path.{refl, ap, ◌∙◌}
use lib.ListN.{length}
use borrow.Author.Rules.{rules}
use Rattle.nbt_siblings.proofs.Answers.{family-answer, repeat-few}
use Rattle.nbt_siblings.proofs.first_repeat.Statement.{statement}
use Rattle.nbt_siblings.proofs.first_repeat.Tie as tie

returns-2 : tie.Need-returns-then-n-lt32
returns-2 c = (c.below.ensures ∙ family-answer c.requires (λ i. omega (arith, c.shared_slice_known-1.given i)) c.few.ensures, refl)

many-requires : tie.Need-many-requires
many-requires c κs = (c.requires, c.count-n.ensures, omega (arith, c.if-n-lt32.false))

returns-3 : tie.Need-returns
returns-3 c =
    (c.below-2.ensures ∙ family-answer c.requires (λ i. omega (arith, c.shared_slice_known-1.given i)) c.many.ensures.1, c.many.ensures.0)

pub first_repeat_spec : {M : Type 1} → statement M
first_repeat_spec =
    tie.close
    (tie.spec
    (λ c κs. let p = c.requires in (λ z m. ((p.fit z m).room, p.on z m), p.small))
    (λ c. search rules)
    (λ c. (repeat-few _ _ _ _ c.count-n.ensures c.if-n-lt2.true, refl))
    (λ c κs. search rules)
    (λ c κs. search rules)
    (λ c. search rules)
    returns-2
    many-requires
    (λ c κs. search rules)
    (λ c. ap length (returns-3 c).1)
    returns-3)
