-- `decimals::power_at` meets its contract: no digit is no power, and the digits' number is its size.
-- Assumes nothing.
use Rattle.std.proofs.Common.{Bool, sym, ap, ◌∙◌}
use Rattle.std.specs.Prelude.{None}
use Rattle.std.proofs.Math.Seq.{slice}
use Rattle.form.specs.Answer.{pick}
use Rattle.snbt_numbers.specs.Rows.{digits_of, counted}
use Rattle.snbt_numbers.proofs.Tokens.{some_bytes}
use Rattle.snbt_numbers.proofs.decimals.power_at.Goals as goal

pub returns : goal.returns
returns c =
    let a = c.args in
    let l = slice a.at a.to a.text.now in
    ap (counted a.down) (sym c.in_ok-e.was ∙ c.digits_from.ensures)
    ∙ sym (ap (λ (b : Bool). pick b None (counted a.down (digits_of 0 l))) (some_bytes a.at a.to a.text.now c.if-to-at.false c.requires.1))
