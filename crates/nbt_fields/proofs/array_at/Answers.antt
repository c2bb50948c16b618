-- Each way through the code is a law of the definition.
-- Assumes nothing.
use Rattle.std.proofs.Common.{sym, ◌∙◌}
use Rattle.std.proofs.lemmas.Result.{err_from_is_err_and}
use Rattle.form.proofs.Fields.{number-within, array-no, array-got, array-below}
use Rattle.nbt_fields.proofs.array_at.Goals as goal

pub returns-in_err-n : goal.returns-in_err-n
returns-in_err-n c = let p = err_from_is_err_and c.from_residual.result c.from_residual.ensures.1 in rw (p.1, p.2) (sym (array-no _ _ _ _ (sym c.in_err-n.ensures)))

pub bytes_at-requires : goal.bytes_at-requires
bytes_at-requires c = number-within _ _ 4 _ (sym c.in_ok-n.ensures)

pub returns-then-n-lt-BELOW_ZERO : goal.returns-then-n-lt-BELOW_ZERO
returns-then-n-lt-BELOW_ZERO c = c.bytes_at.ensures ∙ sym (array-got _ _ _ _ _ (sym c.in_ok-n.ensures) c.if-n-lt-BELOW_ZERO.true)

pub returns-else-n-lt-BELOW_ZERO : goal.returns-else-n-lt-BELOW_ZERO
returns-else-n-lt-BELOW_ZERO c = sym (array-below _ _ _ _ _ (sym c.in_ok-n.ensures) c.if-n-lt-BELOW_ZERO.false)
