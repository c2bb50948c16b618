-- Right since what is short and plain is good, and else `judge` has the verdict.
-- Assumes nothing.
use borrow.Author.Rules.{rules}
use mathlib.Core.Path.{sym, ◌∙◌}
use Rattle.form.specs.Form.{form_no}
use Rattle.mutf8.proofs.Alike.{short-good}
use Rattle.mutf8.proofs.check.Statement.{statement}
use Rattle.mutf8.proofs.check.Tie as tie

pub check_spec : {M : Type 1} → statement M
check_spec =
    tie.close
    (tie.spec
    (λ c κs. search rules)
    (λ c. short-good (form_no c.before.before.before.args.form).strings _ (sym c.before.is_plain.ensures ∙ c.if-is_plain.true))
    (λ c κs. search rules)
    (λ c. c.judge.ensures))
