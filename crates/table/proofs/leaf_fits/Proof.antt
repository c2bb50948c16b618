-- `table::leaf_fits` meets its contract: one case of the definition for each answer.
-- Assumes nothing.
use borrow.Author.Rules.{rules}
use Prim.Native.Nat.{◌≤◌}
use mathlib.Core.Path.{sym, ◌∙◌}
use native.Mathlib.Nat.{mul-le-mul_left}
use native.Mathlib.Omega.{arith}
use Rattle.form.proofs.Fields.{width-le}
use Rattle.form.proofs.Leaves.{array-le, fits-string, fits-array, fits-none, fits-other, fits-length, fits-fixed}
use Rattle.table.proofs.leaf_fits.Statement.{statement}
use Rattle.table.proofs.leaf_fits.Tie as tie

returns : tie.Need-returns-then-kind-eq-STRING
returns c = fits-string _ _ _ c.if-kind-eq-STRING.true

width_of-requires : tie.Need-width_of-requires
width_of-requires c κs = array-le _ (sym c.before.is_array.ensures ∙ c.if-is_array.true)

mul-result : tie.Need-overflow_mul-result
mul-result c =
    let at-else1 = c.before.before.before in
    let start = at-else1.before in
    let a = start.args in
    let le : c.width_of.result ≤ 8 = rw c.width_of.ensures (width-le a.kind) in
    omega (arith, mul-le-mul_left a.count le)

returns-2 : tie.Need-returns-then-is_array
returns-2 c = rw c.width_of.ensures (fits-array _ _ _ (sym c.before.before.is_array.ensures ∙ c.before.if-is_array.true))

returns-3 : tie.Need-returns-then-kind-eq-END
returns-3 c = fits-none _ _ _ c.if-kind-eq-END.true

returns-4 : tie.Need-returns-then-kind-gt-DOUBLE
returns-4 c =
    let at-is-array = c.before.before.before in
    let at-else1 = at-is-array.before in
    fits-other _ _ _ at-else1.if-kind-eq-STRING.false (sym at-is-array.is_array.ensures ∙ c.before.before.if-is_array.false) c.if-kind-gt-DOUBLE.true

returns-5 : tie.Need-returns-then-len-width_of
returns-5 c =
    fits-length _ _ _ c.before.before.before.if-kind-eq-END.false c.before.before.if-kind-gt-DOUBLE.false
    (λ e. c.if-len-width_of.true (e ∙ sym c.before.width_of-2.ensures))

returns-6 : tie.Need-returns
returns-6 c = fits-fixed _ _ _ c.before.before.before.if-kind-eq-END.false c.before.before.if-kind-gt-DOUBLE.false (c.if-len-width_of.false ∙ c.before.width_of-2.ensures)

pub leaf_fits_spec : {M : Type 1} → statement M
leaf_fits_spec =
    tie.close
    (tie.spec
    returns
    (λ c κs. search rules)
    width_of-requires
    mul-result
    returns-2
    returns-3
    returns-4
    (λ c κs. search rules)
    returns-5
    returns-6)
