-- `decimals::mantissa` meets its contract: the digits behind the point go on from those before it.
-- Assumes nothing.
use Rattle.std.proofs.Common.{sym, ◌∙◌, ◌+◌}
use Rattle.std.proofs.Math.Seq.{slice}
use Rattle.snbt_numbers.proofs.Rows.{first-broken, second-row}
use Rattle.snbt_numbers.proofs.decimals.mantissa.Goals as goal

pub returns-in_err-v : goal.returns-in_err-v
returns-in_err-v c =
    let a = c.args in
    c.from_residual.ensures
    ∙ first-broken (slice a.from a.point a.text.now) (slice (a.point + 1) a.ex a.text.now) (sym c.in_err-v.was ∙ c.digits_from.ensures)

pub returns : goal.returns
returns c =
    let a = c.args in
    c.digits_from-2.ensures
    ∙ second-row c.in_ok-v.v (slice a.from a.point a.text.now) (slice (a.point + 1) a.ex a.text.now) (sym c.in_ok-v.was ∙ c.digits_from.ensures)
