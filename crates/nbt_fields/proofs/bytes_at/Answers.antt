-- The test is the definition's.
-- Assumes nothing.
use Rattle.std.proofs.Common.{sym, arith}
use Rattle.form.proofs.Fields.{bytes-got, bytes-no}
use Rattle.nbt_fields.proofs.bytes_at.Goals as goal

pub returns-then-doc-at : goal.returns-then-doc-at
returns-then-doc-at c = sym (bytes-no _ _ _ _ (omega arith))

pub returns : goal.returns
returns c = sym (bytes-got _ _ _ _ (omega arith))
