-- Right since a string of so few bytes is never too long, as it stands or as it is written.
-- Assumes nothing.
use borrow.Author.Rules.{rules}
use native.Mathlib.Omega.{arith}
use mathlib.Core.Path.{◌≡◌, sym, ◌∙◌}
use Rattle.form.specs.Form.{way_no}
use Rattle.form.specs.Spans.{part}
use Rattle.form.specs.Decoding.{well_formed_in}
use Rattle.form.proofs.Spans.{part_length}
use Rattle.form.proofs.Strings.{judged-part}
use Rattle.form.proofs.Turned.{recoded-bound}
use Rattle.form.proofs.Writing.{string-bad, string-good}
use Rattle.nbt_judging.proofs.short_fine.Statement.{statement}
use Rattle.nbt_judging.proofs.short_fine.Tie as tie

-- What is told of the part that is judged is told of the span.
told : (c : tie.After-is_well_formed) →
    let a = c.args in
    well_formed_in (way_no a.way).from.strings (part a.doc.now a.start a.size) ≡ c.is_well_formed.result
told c =
    let a = c.args in
    judged-part (well_formed_in (way_no a.way).from.strings) a.doc.now a.start a.size
    (rw (← c.source.ensures) (sym c.is_well_formed.ensures))

returns : tie.Need-returns-then-is_well_formed
returns c =
    let a = c.args in
    let most = recoded-bound (way_no a.way) (part a.doc.now a.start a.size) in
    let long = part_length a.doc.now a.start a.size c.requires.0 in
    sym (string-good _ _ _ _ _ (omega (arith, c.requires.1)) (told c.before ∙ c.if-is_well_formed.true) (omega (arith, most, long, c.requires.1)))

returns-2 : tie.Need-returns
returns-2 c =
    sym (string-bad _ _ _ _ _ (omega (arith, c.requires.1)) (told c.before ∙ c.if-is_well_formed.false))

pub short_fine_spec : {M : Type 1} → statement M
short_fine_spec =
    tie.close
    (tie.spec
    (λ c. search rules)
    (λ c. search rules)
    (λ c. search rules)
    (λ c. search rules)
    (λ c κs. search rules)
    (λ c κs. search rules)
    returns
    returns-2)
