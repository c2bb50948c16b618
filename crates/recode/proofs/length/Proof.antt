-- Right since by the same rule a string is its bytes, and otherwise its characters are counted.
-- Assumes nothing.
use Prim.Native.Nat.{◌+◌, ◌-◌}
use mathlib.Core.Path.{◌≡◌, sym, ap, ◌∙◌}
use mathlib.Core.Bool.{false}
use native.Mathlib.Omega.{arith}
use borrow.Author.Rules.{rules}
use lib.ListN.{length}
use Rattle.form.specs.Form.{way_no, same_rule}
use Rattle.form.specs.Spans.{part}
use Rattle.form.proofs.Spans.{part_length}
use Rattle.form.proofs.Turned.{recoded-same}
use Rattle.recode.proofs.length.Statement.{statement}
use Rattle.recode.proofs.length.Tie as tie

abbrev start_of : tie.After-same_rule → tie.Start
start_of c = c.before.before

-- the span has `size` bytes
sized : (c : tie.After-same_rule) → let a = (start_of c).args in length (part a.doc.now a.start a.size) ≡ a.size
sized c = let a = (start_of c).args in part_length a.doc.now a.start a.size (start_of c).requires.0

-- where it is given by its end too
ended : (c : tie.After-same_rule) → let a = (start_of c).args in a.start + a.size - a.start ≡ a.size
ended c = omega arith

other : (c : tie.Else-same_rule) → let way = way_no (start_of c.before).args.way in same_rule way.from.strings way.to.strings ≡ false
other c = sym c.before.same_rule.ensures ∙ c.if-same_rule.false

returns : tie.Need-returns-then-same_rule
returns c =
    let at_test = c.before in
    let a = (start_of at_test).args in
    let as_is = recoded-same (way_no a.way) (part a.doc.now a.start a.size) (sym at_test.same_rule.ensures ∙ c.if-same_rule.true) in
    sym (ap length as_is ∙ sized at_test)

other_length-requires : tie.Need-other_length-requires
other_length-requires c κs =
    let at_test = c.before.before in
    (rw (ended at_test, sized at_test) (start_of at_test).requires.1, other c.before)

returns-2 : tie.Need-returns
returns-2 c = let at_test = c.before.before.before in rw (ended at_test) at c.other_length.ensures

pub length_spec : {M : Type 1} → statement M
length_spec =
    tie.close
    (tie.spec
    (λ c κs. search rules)
    returns
    (λ c. search rules)
    (λ c. search rules)
    (λ c. search rules)
    (λ c. search rules)
    other_length-requires
    returns-2)
