-- The payload's width is known, so it is cut, or one record is written.
-- Assumes nothing.
use Rattle.std.proofs.Common.{refl, ◌∙◌, arith}
use Rattle.form.proofs.Payloads.{leaf-one-no, leaf-one-got}
use Rattle.form.proofs.Table.{size_none, wrote-leaf}
use Rattle.nbt_reader.proofs.Steps.{fixed-got, fixed_no}
use Rattle.nbt_gather.proofs.gather_fixed.Goals as goal

pub returns-then-doc-at : goal.returns-then-doc-at
returns-then-doc-at c form =
    let asked = c.requires in (
      (_, _, leaf-one-no form _ _ _ _ _ (fixed_no form _ _ _ _ asked.2 c.width_of-width.ensures.0 (omega (arith, c.if-doc-at.true, asked.0.ready.at_le)))),
      refl,
      refl,
      refl,
    )

pub returns : goal.returns
returns c form =
    let asked = c.requires in
    let ready = asked.0.ready in
    record {
      x = _;
      is = leaf-one-got form _ _ _ _ _ (fixed-got form _ _ _ _ asked.2 c.width_of-width.ensures.0 (omega (arith, c.if-doc-at.false, ready.at_le)));
      at_is = refl;
      n_is = omega (arith, size_none);
      table = c.put.ensures ∙ rw (c.leaf.ensures, c.from.ensures) (wrote-leaf _ _ _ _ (omega (arith, ready, asked.1)));
      on = omega arith;
      at_le = omega (arith, c.if-doc-at.false, ready.at_le);
      n_le = omega (arith, asked.1);
    }
