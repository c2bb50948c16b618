-- `wholes::stem_end` meets its contract: its two arms are the definition's.
-- Assumes nothing.
use borrow.Author.Rules.{rules}
use mathlib.Core.Path.{sym, ap, ◌∙◌}
use mathlib.Core.Bool.{Bool}
use Prim.Native.Nat.{◌-◌}
use Rattle.form.specs.Answer.{pick}
use Rattle.snbt_numbers.proofs.wholes.stem_end.Statement.{statement}
use Rattle.snbt_numbers.proofs.wholes.stem_end.Tie as tie

pub stem_end_spec : {M : Type 1} → statement M
stem_end_spec =
    tie.close
    (tie.spec
    (λ c κs. search rules)
    (λ c. search rules)
    (λ c. let e = c.args.end in ap (λ (b : Bool). pick b (e - 1) e) (sym c.if-is_suffix.true ∙ c.is_suffix.ensures))
    (λ c. let e = c.args.end in ap (λ (b : Bool). pick b (e - 1) e) (sym c.if-is_suffix.false ∙ c.is_suffix.ensures)))
