-- Each way through the code is a law of the definition.
-- Assumes nothing.
use Rattle.std.proofs.Common.{sym}
use Rattle.form.proofs.Fields.{entry-end, entry-last}
use Rattle.nbt_fields.proofs.entry_at.Goals as goal

pub returns-then-doc-at : goal.returns-then-doc-at
returns-then-doc-at c = sym (entry-end _ _ _ c.if-doc-at.true)

pub returns-then-kind-eq-END : goal.returns-then-kind-eq-END
returns-then-kind-eq-END c = sym (entry-last _ _ _ c.if-doc-at.false c.if-kind-eq-END.true)
