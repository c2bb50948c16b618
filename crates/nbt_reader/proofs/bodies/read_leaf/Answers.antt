-- The span lies in the document, so its numbers fit, and one record is written.
-- Assumes nothing.
use Rattle.std.proofs.Common.{refl, sym, ◌∙◌, arith}
use Rattle.std.proofs.lemmas.Result.{err_from_is_err_and}
use Rattle.form.proofs.Fields.{leaf-within}
use Rattle.form.proofs.Payloads.{leaf-one-no, leaf-one-got}
use Rattle.form.proofs.Table.{size_none, wrote-leaf}
use Rattle.nbt_reader.proofs.bodies.read_leaf.Goals as goal

pub returns-in_err-leaf : goal.returns-in_err-leaf
returns-in_err-leaf c =
    let p = err_from_is_err_and c.from_residual.result c.from_residual.ensures.1 in
    rw (p.1, p.2) (leaf-one-no _ _ _ _ _ _ (sym c.in_err-leaf.ensures), refl)

pub leaf-requires : goal.leaf-requires
leaf-requires c = omega (arith, leaf-within _ _ _ _ (sym c.in_ok-leaf.ensures), c.requires.0.ready)

pub returns : goal.returns
returns c =
    let asked = c.requires in
    let l = leaf-within _ _ _ _ (sym c.in_ok-leaf.ensures) in
    record {
      x = _;
      is = leaf-one-got _ _ _ _ _ _ (sym c.in_ok-leaf.ensures);
      at_is = refl;
      n_is = omega (arith, size_none);
      table = c.put.ensures ∙ rw (c.leaf.ensures, c.from.ensures) (wrote-leaf _ _ _ _ (omega (arith, asked.0.ready, asked.1)));
      on = omega (arith, l);
      at_le = l.to;
      n_le = omega arith;
    }
