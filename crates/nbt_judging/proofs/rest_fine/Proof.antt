-- Right since each way through the code is a law of the definition.
-- Assumes nothing.
use borrow.Author.Rules.{rules}
use mathlib.Core.Path.{◌≡◌, sym, ap, ◌∙◌}
use Rattle.form.specs.Table.{head_of}
use Rattle.nbt_judging.specs.Pieces.{deep, mixed}
use Rattle.nbt_judging.proofs.Pieces.{rest-deep, rest-mixed, rest-on}
use Rattle.nbt_judging.proofs.rest_fine.Statement.{statement}
use Rattle.nbt_judging.proofs.rest_fine.Tie as tie

-- The tests are of the record's kind.
told-deep : (c : tie.After-deep) → let a = c.args in deep (head_of a.table.now a.n).kind a.left ≡ c.deep.result
told-deep c = let a = c.args in sym (c.deep.ensures ∙ ap (λ x. deep x a.left) c.word-kind.ensures)

told-mixed : (c : tie.After-mixed) → let a = c.args in mixed a.list (head_of a.table.now a.n).kind a.k ≡ c.mixed.result
told-mixed c = let a = c.args in sym (c.mixed.ensures ∙ ap (λ x. mixed a.list x a.k) c.word-kind.ensures)

returns-2 : tie.Need-returns-then-mixed
returns-2 c =
    sym (rest-mixed _ _ _ _ _ _ _ (told-deep c.before.before.before ∙ c.if-deep.false) (told-mixed c.before ∙ c.if-mixed.true))

returns-3 : tie.Need-returns
returns-3 c =
    c.payload_fine.ensures
    ∙ sym (rest-on _ _ _ _ _ _ _ (told-deep c.before.before.before.before ∙ c.if-deep.false) (told-mixed c.before.before ∙ c.if-mixed.false))

pub rest_fine_spec : {M : Type 1} → statement M
rest_fine_spec =
    tie.close
    (tie.spec
    (λ c κs. search rules)
    (λ c κs. search rules)
    (λ c. sym (rest-deep _ _ _ _ _ _ _ (told-deep c.before ∙ c.if-deep.true)))
    (λ c κs. search rules)
    returns-2
    (λ c κs. search rules)
    returns-3)
