-- Each way through the code is a law of the definition.
-- Assumes nothing.
use Rattle.std.proofs.Common.{length, refl, sym, arith}
use Rattle.std.proofs.lemmas.Result.{err_from_is_err_and}
use Rattle.form.proofs.Fields.{string-within}
use Rattle.form.proofs.Payloads.{document-long, document-none, document-kind, document-no, document-got, room-le, room_fits}
use Rattle.nbt_reader.proofs.Steps.{stepped-from}
use Rattle.nbt_reader.proofs.document.Goals as goal

pub returns-then-doc-gt-DOCUMENT : goal.returns-then-doc-gt-DOCUMENT
returns-then-doc-gt-DOCUMENT c = (document-long _ _ _ c.if-doc-gt-DOCUMENT.true, refl)

pub returns-then-doc-eq0 : goal.returns-then-doc-eq0
returns-then-doc-eq0 c = (document-none _ _ _ c.if-doc-gt-DOCUMENT.false c.if-doc-eq0.true, refl)

pub returns-then-doc-ne-COMPOUND : goal.returns-then-doc-ne-COMPOUND
returns-then-doc-ne-COMPOUND c = (document-kind _ _ _ c.if-doc-gt-DOCUMENT.false (omega arith) c.if-doc-ne-COMPOUND.true, refl)

pub returns-in_err-name : goal.returns-in_err-name
returns-in_err-name c =
    let p = err_from_is_err_and c.from_residual.result c.from_residual.ensures.1 in
    rw (p.1, p.2) (document-no _ _ _ c.if-doc-gt-DOCUMENT.false (omega arith) c.if-doc-ne-COMPOUND.false (sym c.in_err-name.ensures), refl)

pub root-requires : goal.root-requires
root-requires c =
    let w = string-within _ _ _ (sym c.in_ok-name.ensures) in
    let n = length c.args.table.now in
    record {
      ready = record { doc_le = c.if-doc-gt-DOCUMENT.false; at_le = w.to; cap_le = room-le n; fits = room_fits n; n_le = omega arith; above_le = omega arith };
      kind_le = omega arith;
      name_lt = omega (arith, w);
      len_lt = omega (arith, w);
    }

pub returns : goal.returns
returns c =
    rw (document-got _ _ _ c.if-doc-gt-DOCUMENT.false (omega arith) c.if-doc-ne-COMPOUND.false (sym c.in_ok-name.ensures))
    (stepped-from c.root.result _ _ _ _ _ _ _ _ c.root.ensures)
