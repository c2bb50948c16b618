-- Right since a long name and a short one are judged alike.
-- Assumes nothing.
use borrow.Author.Rules.{rules}
use mathlib.Core.Path.{◌≡◌, ◌∙◌}
use Rattle.form.specs.Form.{way_no}
use Rattle.form.specs.Table.{word}
use Rattle.form.specs.Writing.{string_fine}
use Rattle.nbt_judging.proofs.name_fine.Statement.{statement}
use Rattle.nbt_judging.proofs.name_fine.Tie as tie

-- What is judged of the span is judged of the name.
judged : (c : tie.After-word-size) →
    let a = c.args in
    string_fine (way_no a.way) a.doc.now c.word-start.result c.word-size.result a.n
    ≡ string_fine (way_no a.way) a.doc.now (word a.table.now a.n 1) (word a.table.now a.n 2) a.n
judged c =
    let a = c.args in
    λ i. string_fine (way_no a.way) a.doc.now (c.word-start.ensures i) (c.word-size.ensures i) a.n

pub name_fine_spec : {M : Type 1} → statement M
name_fine_spec =
    tie.close
    (tie.spec
    (λ c κs. search rules)
    (λ c κs. search rules)
    (λ c κs. search rules)
    (λ c. c.long_fine.ensures ∙ judged c.before.before)
    (λ c κs. search rules)
    (λ c. c.short_fine.ensures ∙ judged c.before.before))
