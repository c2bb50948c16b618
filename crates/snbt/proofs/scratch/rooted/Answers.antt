-- The root's compound is read with all containers left and no keys, and its id and empty name are put before it.
-- Assumes nothing.
use Rattle.std.proofs.lemmas.Result.{err_from_is_err_and}
use Rattle.snbt.proofs.Tops.{rooted-no, rooted-did}
use Rattle.snbt.proofs.scratch.rooted.Goals as goal

pub returns-in_err-done : goal.returns-in_err-done
returns-in_err-done c =
    let a = c.args in
    let r = c.parse_compound_tag in
    let p = err_from_is_err_and c.from_residual.result c.from_residual.ensures.1 in
    rw (p.1, p.2) (rooted-no a.text.now a.out.now a.keys.now a.brace.0 a.next c.in_err-done.field-0.0 r.new.out r.new.keys c.in_err-done.ensures)

pub returns : goal.returns
returns c =
    let a = c.args in
    let r = c.parse_compound_tag in
    rooted-did a.text.now a.out.now a.keys.now a.brace.0 a.next c.in_ok-done.done r.new.out r.new.keys c.put_root.new.out c.in_ok-done.ensures c.put_root.ensures
