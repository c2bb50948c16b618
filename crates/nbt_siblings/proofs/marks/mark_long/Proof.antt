-- `mark_long` meets its contract.
-- Assumes nothing.
use mathlib.Core.Path.{refl, ◌∙◌}
use Rattle.nbt_siblings.proofs.Bytes.{mark-most}
use borrow.Author.Rules.{rules}
use Rattle.nbt_siblings.proofs.marks.mark_long.Statement.{statement}
use Rattle.nbt_siblings.proofs.marks.mark_long.Tie as tie

returns : tie.Need-returns
returns c =
    let b4 = c.before in
    let b3 = b4.before in
    let b2 = b3.before in
    let b1 = b2.before in
    let p = b1.before.before.requires in
    c.stir.ensures ∙ rw (b1.both.ensures.0, b2.both-2.ensures.0, b3.four.ensures.0, b4.four-2.ensures.0) (mark-most _ _ _ p.0 _ refl p.1)

pub mark_long_spec : {M : Type 1} → statement M
mark_long_spec =
    tie.close
    (tie.spec
    (λ c. search rules)
    (λ c. search rules)
    (λ c κs. search rules)
    (λ c. search rules)
    (λ c κs. search rules)
    (λ c. search rules)
    (λ c. search rules)
    (λ c κs. search rules)
    (λ c. search rules)
    (λ c. search rules)
    (λ c κs. search rules)
    (λ c κs. search rules)
    returns)
