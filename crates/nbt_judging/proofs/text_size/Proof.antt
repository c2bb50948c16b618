-- Right since a string that is written by the same rule is as it was.
-- Assumes nothing.
use borrow.Author.Rules.{rules}
use mathlib.Core.Path.{sym, ap, ◌∙◌}
use lib.ListN.{length}
use Rattle.form.specs.Form.{way_no}
use Rattle.form.specs.Spans.{part}
use Rattle.form.proofs.Spans.{part_length}
use Rattle.form.proofs.Turned.{recoded-same}
use Rattle.nbt_judging.proofs.text_size.Statement.{statement}
use Rattle.nbt_judging.proofs.text_size.Tie as tie

returns : tie.Need-returns-then-same_rule
returns c =
    let a = c.args in
    let span = part a.doc.now a.start a.size in
    let same = recoded-same (way_no a.way) span (sym c.same_rule.ensures ∙ c.if-same_rule.true) in
    sym (ap length same ∙ part_length a.doc.now a.start a.size c.requires.0)

pub text_size_spec : {M : Type 1} → statement M
text_size_spec =
    tie.close
    (tie.spec
    (λ c κs. search rules)
    returns
    (λ c κs. search rules)
    (λ c. c.length.ensures))
