-- `put_whole` meets its contract: in its range it is its bits; out of it the refusal is 19.
-- Assumes nothing.
use Rattle.std.proofs.Common.{◌∙◌, length, refl, sym, ap, subst}
use Rattle.snbt_form.specs.Text.{in_range}
use Rattle.raw.proofs.Signs.{held}
use Rattle.snbt_placing.specs.Done.{Puts}
use Rattle.snbt_scalars.proofs.Placing.{whole_in_lem, whole_out_lem, whole-bytes}
use Rattle.snbt_scalars.proofs.put_whole.Goals as goal

pub returns-then-in_range : goal.returns-then-in_range
returns-then-in_range c tag k s =
    let a = c.args in
    let t = a.target in
    let e = ap (in_range a.width) (sym (held a.v c.well_formed.0)) ∙ sym c.in_range.ensures ∙ c.if-in_range.true in
    subst (λ res. Puts res a.out.now t.at c.put_bits.result c.put_bits.new.out)
    (whole_in_lem a.width a.v (length a.out.now) t.want tag t.index.0 t.next t.at e)
    (c.put_bits.ensures tag k (s ∙ whole-bytes a.width a.v _ c.bits_of.result (held a.v c.well_formed.0) c.requires.1 e c.bits_of.ensures))

pub returns : goal.returns
returns c tag k s =
    let a = c.args in
    let t = a.target in
    let e = ap (in_range a.width) (sym (held a.v c.well_formed.0)) ∙ sym c.in_range.ensures ∙ c.if-in_range.false in
    (whole_out_lem a.width a.v (length a.out.now) t.want tag t.index.0 t.next t.at e, refl)
