-- Right since both forms' numbers name the pocket edition's, or neither does.
-- Assumes nothing.
use borrow.Author.Rules.{rules}
use Prim.Native.Nat.{◌/◌, ◌%◌}
use mathlib.Core.Bool.{beq}
use mathlib.Core.Path.{ap, ◌∙◌}
use lib.Dec.{eqb}
use Rattle.form.proofs.Between.{form-is}
use Rattle.form.proofs.ways.stays.Statement.{statement}
use Rattle.form.proofs.ways.stays.Tie as tie

returns : tie.Need-returns
returns c =
    let at_Target = c.before in
    let at_first = at_Target.before in
    let at_source = at_first.before in
    let way = at_source.before.args.way in
    let first = at_first.is_pocket.ensures ∙ ap (λ n. eqb n 2) at_source.source.ensures in
    let second = c.is_pocket-2.ensures ∙ ap (λ n. eqb n 2) at_Target.target.ensures in
    (λ i. beq (first i) (second i)) ∙ form-is (eqb (way % 256) 2) (eqb (way / 256) 2)

pub stays_spec : {M : Type 1} → statement M
stays_spec =
    tie.close
    (tie.spec
    (λ c κs. search rules)
    (λ c κs. search rules)
    (λ c κs. search rules)
    (λ c κs. search rules)
    returns)
