-- `array_kind` meets its contract: the three widths, one by one.
-- Assumes nothing.
use mathlib.Core.Path.{refl}
use borrow.Author.Tests.{ne_eqb}
use Rattle.form.specs.Tree.{kind_of}
use Rattle.snbt_arrays.proofs.array_kind.Statement.{statement}
use Rattle.snbt_arrays.proofs.array_kind.Tie as tie

pub array_kind_spec : {M : Type 1} → statement M
array_kind_spec =
    tie.close
    (tie.spec
    (λ c. unfold kind_of in λ vs. rw c.in-1.is refl)
    (λ c. unfold kind_of in λ vs. rw c.in-4.is refl)
    (λ c. unfold kind_of in λ vs. let w = c.args.width in rw (ne_eqb w 1 c.in_default.in_default-own.rest.0.1, ne_eqb w 4 c.in_default.in_default-own.rest.1) refl))
