-- The root's payload is asked as a payload is, it is not whole, and what is kept of it is what is kept of the document.
-- Assumes nothing.
use Rattle.std.proofs.Common.{refl, sym, arith}
use Rattle.form.specs.Form.{form_no}
use Rattle.nbt_gather.proofs.Asked.{string-none, root-asked, root-whole, root_kept}
use Rattle.nbt_gather.proofs.gather.Goals as goal

pub returns-then-doc-eq0 : goal.returns-then-doc-eq0
returns-then-doc-eq0 c = (string-none (form_no c.args.form) c.args.doc.now c.if-doc-eq0.true, refl, refl)

pub gather_larger_body-requires : goal.gather_larger_body-requires
gather_larger_body-requires c =
    (root-asked (form_no c.args.form) c.args.doc.now c.args.table.now c.requires.0 (sym c.in-Ok.ensures) _ _ c.requires.1, omega arith)

pub returns-in-Whole : goal.returns-in-Whole
returns-in-Whole c =
    let g = c.gather_larger_body in
    absurd (root-whole (form_no c.args.form) c.args.doc.now c.args.table.now c.requires.0 (sym c.in-Ok.ensures) _ _ _ _ g.result g.ensures c.in-Whole.is)

pub returns-in-Cut : goal.returns-in-Cut
returns-in-Cut c =
    let g = c.gather_larger_body in
    root_kept (form_no c.args.form) c.args.doc.now c.args.table.now c.requires.0 (sym c.in-Ok.ensures) _ _ _ _ g.result g.ensures c.in-Cut.is
