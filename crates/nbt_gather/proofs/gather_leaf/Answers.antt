-- The span lies in the document, so its numbers fit, and one record is written; or nothing is.
-- Assumes nothing.
use Rattle.std.proofs.Common.{refl, sym, ◌∙◌, arith}
use Rattle.form.proofs.Fields.{leaf-within}
use Rattle.form.proofs.Payloads.{leaf-one-no, leaf-one-got}
use Rattle.form.proofs.Table.{size_none, wrote-leaf}
use Rattle.nbt_gather.proofs.gather_leaf.Goals as goal

pub leaf-requires : goal.leaf-requires
leaf-requires c =
    let asked = c.requires in
    omega (arith, leaf-within _ _ _ _ (sym c.in-Ok.ensures), asked.0, asked.0.ready, asked.1)

pub returns-in-Err : goal.returns-in-Err
returns-in-Err c = ((_, _, leaf-one-no _ _ _ _ _ _ (sym c.in-Err.ensures)), refl, refl, refl)

pub returns-in-Ok : goal.returns-in-Ok
returns-in-Ok c =
    let asked = c.requires in
    let l = leaf-within _ _ _ _ (sym c.in-Ok.ensures) in
    record {
      x = _;
      is = leaf-one-got _ _ _ _ _ _ (sym c.in-Ok.ensures);
      at_is = refl;
      n_is = omega (arith, size_none);
      table = c.put.ensures ∙ rw (c.leaf.ensures, c.from.ensures) (wrote-leaf _ _ _ _ (omega (arith, asked.0.ready, asked.1)));
      on = omega (arith, l);
      at_le = l.to;
      n_le = omega (arith, asked.1);
    }
