-- The text is judged first.
-- Assumes nothing.
use Rattle.std.proofs.Common.{length, sym, arith}
use Rattle.snbt.proofs.Tops.{root-as, parsed-no, parsed-on, judged-within}
use Rattle.snbt.proofs.judged.Goals as goal

pub returns-in-Err : goal.returns-in-Err
returns-in-Err c = parsed-no c.args.text.now (length c.args.out.now) _ _ (sym c.in-Err.ensures)

pub stepped-requires : goal.stepped-requires
stepped-requires c = (judged-within c.args.text.now (sym c.in_default.ensures), omega arith)

pub returns : goal.returns
returns c =
    let a = c.args in
    let r = c.stepped in
    root-as a.out.now r.result r.new.out (parsed-on a.text.now (length a.out.now) (sym c.in_default.ensures)) r.ensures
