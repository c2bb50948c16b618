-- Right since each way through the code is a law of the definition.
-- Assumes nothing.
use borrow.Author.Rules.{rules}
use native.Mathlib.Omega.{arith}
use mathlib.Core.Bool.{true}
use mathlib.Core.Path.{◌≡◌, sym, ap, ◌∙◌}
use lib.ListN.{length}
use Rattle.form.specs.Form.{way_no}
use Rattle.form.specs.Spans.{part}
use Rattle.form.specs.Decoding.{well_formed_in}
use Rattle.form.proofs.Spans.{part_length}
use Rattle.form.proofs.Strings.{judged-part}
use Rattle.form.proofs.Turned.{recoded-same}
use Rattle.form.proofs.Writing.{string-long, string-bad, string-grown, string-good}
use Rattle.nbt_judging.proofs.long_fine.Statement.{statement}
use Rattle.nbt_judging.proofs.long_fine.Tie as tie

-- What is told of the part that is judged is told of the span.
told : (c : tie.After-is_well_formed) →
    let a = c.args in
    well_formed_in (way_no a.way).from.strings (part a.doc.now a.start a.size) ≡ c.is_well_formed.result
told c =
    let a = c.args in
    judged-part (well_formed_in (way_no a.way).from.strings) a.doc.now a.start a.size
    (rw (← c.source.ensures) (sym c.is_well_formed.ensures))

returns-2 : tie.Need-returns-then-not-is_well_formed
returns-2 c = sym (string-bad _ _ _ _ _ (omega arith) (told c.before ∙ c.if-not-is_well_formed.true))

-- What that says of the span.
good : (c : tie.Else-not-is_well_formed) →
    let a = c.args in
    well_formed_in (way_no a.way).from.strings (part a.doc.now a.start a.size) ≡ true
good c = told c.before ∙ c.if-not-is_well_formed.false

returns-3 : tie.Need-returns-then-same_rule
returns-3 c =
    let a = c.args in
    let span = part a.doc.now a.start a.size in
    let same = ap length (recoded-same (way_no a.way) span (sym c.same_rule.ensures ∙ c.if-same_rule.true)) in
    sym (string-good _ _ _ _ _ (omega arith) (good c.before.before) (omega (arith, same, part_length a.doc.now a.start a.size c.requires)))

returns-4 : tie.Need-returns-then-length-gt-STRING
returns-4 c =
    sym (string-grown _ _ _ _ _ (omega arith) (good c.before.before.before.before) (omega (arith, c.length.ensures)))

returns-5 : tie.Need-returns
returns-5 c =
    sym (string-good _ _ _ _ _ (omega arith) (good c.before.before.before.before) (omega (arith, c.length.ensures)))

pub long_fine_spec : {M : Type 1} → statement M
long_fine_spec =
    tie.close
    (tie.spec
    (λ c. sym (string-long _ _ _ _ _ (omega arith)))
    (λ c. search rules)
    (λ c. search rules)
    (λ c. search rules)
    (λ c. search rules)
    (λ c κs. search rules)
    (λ c κs. search rules)
    returns-2
    (λ c κs. search rules)
    returns-3
    (λ c κs. search rules)
    returns-4
    returns-5)
