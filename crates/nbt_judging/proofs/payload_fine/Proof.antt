-- Right since a string's span is judged, and no other.
-- Assumes nothing.
use borrow.Author.Rules.{rules}
use mathlib.Core.Path.{◌≡◌, sym, ◌∙◌}
use Rattle.form.specs.Form.{way_no}
use Rattle.form.specs.Writing.{string_fine, payload_fine}
use Rattle.form.proofs.Writing.{payload-string, payload-other}
use Rattle.form.specs.Table.{head_of}
use Rattle.nbt_judging.proofs.payload_fine.Statement.{statement}
use Rattle.nbt_judging.proofs.payload_fine.Tie as tie

-- What is judged of a string's span is judged of the record.
judged : (c : tie.After-word-size) →
    let a = c.args in
    let h = head_of a.table.now a.n in
    string_fine (way_no a.way) a.doc.now c.word-start.result c.word-size.result a.n ≡ payload_fine (way_no a.way) a.doc.now h a.n
judged c =
    let a = c.args in
    (λ i. string_fine (way_no a.way) a.doc.now (c.word-start.ensures i) (c.word-size.ensures i) a.n)
    ∙ sym (payload-string (way_no a.way) a.doc.now (head_of a.table.now a.n) a.n (sym c.word.ensures ∙ c.in-8.is))

returns-3 : tie.Need-returns-in_default
returns-3 c =
    let a = c.args in
    sym (payload-other (way_no a.way) a.doc.now (head_of a.table.now a.n) a.n (λ q. c.in_default.in_default-own.rest.1 (c.word.ensures ∙ q)))

pub payload_fine_spec : {M : Type 1} → statement M
payload_fine_spec =
    tie.close
    (tie.spec
    (λ c κs. search rules)
    (λ c κs. search rules)
    (λ c κs. search rules)
    (λ c κs. search rules)
    (λ c. c.long_fine.ensures ∙ judged c.before.before)
    (λ c κs. search rules)
    (λ c. c.short_fine.ensures ∙ judged c.before.before)
    returns-3)
