-- Right since the check has the computed verdict.
-- Assumes nothing.
use borrow.Author.Rules.{rules}
use mathlib.Core.Path.{sym}
use Rattle.form.specs.Form.{way_no}
use Rattle.form.specs.Decoding.{verdict_in}
use Rattle.form.proofs.Strings.{judged-part}
use Rattle.nbt_writer.proofs.checked.Statement.{statement}
use Rattle.nbt_writer.proofs.checked.Tie as tie

returns : tie.Need-returns
returns c =
    let a = c.args in
    sym (judged-part (verdict_in (way_no a.way).from.strings) a.doc.now a.start a.size (rw (← c.source.ensures) (sym c.check.ensures.is)))

pub checked_spec : {M : Type 1} → statement M
checked_spec =
    tie.close
    (tie.spec
    (λ c. search rules)
    (λ c. search rules)
    (λ c. search rules)
    (λ c. search rules)
    (λ c κs. search rules)
    (λ c κs. search rules)
    returns)
