-- `put_bits` meets its contract: kind and room are asked in their order, and the bytes are the number's, whatever the width.
-- Assumes nothing.
use Rattle.std.proofs.Common.{length, refl, sym, arith}
use Rattle.std.proofs.lemmas.Result.{err_from_is_err_and}
use Rattle.form.specs.Numbers.{bytes_of}
use Rattle.form.proofs.Digits.{digits-length}
use Rattle.snbt_scalars.proofs.Placing.{admitted-room, placed-barred, placed-did}
use Rattle.snbt_scalars.proofs.put_bits.Goals as goal

pub returns-in_err-admitted : goal.returns-in_err-admitted
returns-in_err-admitted c tag k s =
    let a = c.args in
    let t = a.target in
    let p = err_from_is_err_and c.from_residual.result c.from_residual.ensures.1 in
    rw (p.1, p.2)
    (placed-barred a.out.now t.want t.index.0 t.next t.at a.kind a.width (bytes_of a.width a.bits) (digits-length a.width a.bits) tag k s (sym c.in_err-admitted.ensures), refl)

pub put_number-requires : goal.put_number-requires
put_number-requires c =
    let t = c.args.target in
    (c.requires, admitted-room t.want c.args.kind (length c.args.out.now) t.at c.args.width t.index.0 (sym c.in_ok-admitted.ensures))

pub overflow_add-result : goal.overflow_add-result
overflow_add-result c =
    let t = c.args.target in
    let room = admitted-room t.want c.args.kind (length c.args.out.now) t.at c.args.width t.index.0 (sym c.in_ok-admitted.ensures) in
    omega (arith, room)

pub returns : goal.returns
returns c tag k s =
    let a = c.args in
    let t = a.target in
    placed-did a.out.now t.want t.index.0 t.next t.at a.kind a.width (bytes_of a.width a.bits) (digits-length a.width a.bits) tag k s (sym c.in_ok-admitted.ensures) c.put_number.ensures
