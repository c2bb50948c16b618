-- `put_plain` meets its contract: the span is the content, kind and room are asked in their order, then length and span are put.
-- Assumes nothing.
use Rattle.std.proofs.Common.{◌+◌, ◌-◌, length, refl, sym, arith}
use Rattle.std.proofs.lemmas.Result.{err_from_is_err_and}
use Rattle.snbt_scalars.proofs.Placing.{admitted-room, own-long, string-barred, string-did}
use Rattle.snbt_scalars.proofs.put_plain.Goals as goal

pub returns-in_err-admitted : goal.returns-in_err-admitted
returns-in_err-admitted c quoted =
    let a = c.args in
    let t = a.target in
    let q = c.requires in
    let own = own-long a.text.now a.start a.end q.0 q.1 q.2 quoted in
    let p = err_from_is_err_and c.from_residual.result c.from_residual.ensures.1 in
    rw (p.1, p.2)
    (string-barred a.text.now quoted a.start a.end t.want t.index.0 t.next t.at a.out.now own (omega (arith, q.2.short)) (sym c.in_err-admitted.ensures), refl)

pub put_number-requires : goal.put_number-requires
put_number-requires c =
    let a = c.args in
    let t = a.target in
    let room = admitted-room t.want 8 (length a.out.now) t.at (2 + (a.end - a.start)) t.index.0 (sym c.in_ok-admitted.ensures) in
    (omega arith, omega (arith, room))

pub overflow_add-at : goal.overflow_add-at
overflow_add-at c =
    let a = c.args in
    let t = a.target in
    let room = admitted-room t.want 8 (length a.out.now) t.at (2 + (a.end - a.start)) t.index.0 (sym c.in_ok-admitted.ensures) in
    omega (arith, room)

pub copy-requires : goal.copy-requires
copy-requires c =
    let a = c.args in
    let t = a.target in
    let room = admitted-room t.want 8 (length a.out.now) t.at (2 + (a.end - a.start)) t.index.0 (sym c.in_ok-admitted.ensures) in
    (omega (arith, c.requires.0, c.requires.1), omega (arith, room, c.put_number.auto.d))

pub overflow_add-result : goal.overflow_add-result
overflow_add-result c =
    let a = c.args in
    let t = a.target in
    let room = admitted-room t.want 8 (length a.out.now) t.at (2 + (a.end - a.start)) t.index.0 (sym c.in_ok-admitted.ensures) in
    omega (arith, room)

pub overflow_add-result-2 : goal.overflow_add-result-2
overflow_add-result-2 c =
    let a = c.args in
    let t = a.target in
    let room = admitted-room t.want 8 (length a.out.now) t.at (2 + (a.end - a.start)) t.index.0 (sym c.in_ok-admitted.ensures) in
    omega (arith, room)

pub returns : goal.returns
returns c quoted =
    let a = c.args in
    let t = a.target in
    let q = c.requires in
    let own = own-long a.text.now a.start a.end q.0 q.1 q.2 quoted in
    string-did a.text.now quoted a.start a.end t.want t.index.0 t.next t.at a.out.now own (omega (arith, q.2.short)) (sym c.in_ok-admitted.ensures)
    c.put_number.new.d c.copy.new.out _ c.put_number.ensures (omega (arith, own.size), c.copy.ensures)
