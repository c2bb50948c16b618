-- `raw::put_signed` meets its contract: the lowest digits of the 64 bits are those of the bits in the width.
-- Assumes nothing.
use Rattle.std.proofs.Common.{ap, ◌∙◌, rules}
use Rattle.form.specs.Form.{big}
use Rattle.form.specs.Numbers.{digits, ordered, bits_of}
use Rattle.form.specs.Spans.{over}
use Rattle.form.proofs.Digits.{digits-narrow}
use Rattle.raw.proofs.Signs.{held}
use Rattle.raw.proofs.put_signed.Statement.{statement}
use Rattle.raw.proofs.put_signed.Tie as tie

bits_of-requires : tie.Need-bits_of-requires
bits_of-requires c κs = search rules

put_number-requires : tie.Need-put_number-requires
put_number-requires c κs = search rules

same_length : tie.Need-shape_of-d
same_length c = search rules

returns : tie.Need-returns
returns c =
    let at-put = c.before.before in
    let at_bits = at-put.before in
    let a = at_bits.before.before.before in
    let w = a.args.width in
    at-put.put_number.ensures
    ∙ ap (λ ds. over a.args.d.now a.args.at (ordered big ds)) (
    ap (digits w) at_bits.bits_of.ensures
    ∙ ap (λ z. digits w (bits_of 8 z)) (held a.args.v a.well_formed.1.1.1.0)
    ∙ digits-narrow w 8 a.args.v a.requires.0 a.requires.2
    )

pub put_signed_spec : {M : Type 1} → statement M
put_signed_spec = tie.close (tie.spec bits_of-requires put_number-requires same_length returns)
