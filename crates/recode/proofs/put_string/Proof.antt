-- Right since by the same rule a string is its bytes, and otherwise its characters are written.
-- Assumes nothing.
use Prim.Native.Nat.{◌+◌, ◌-◌}
use mathlib.Core.Path.{◌≡◌, sym, ap, ◌∙◌}
use mathlib.Core.Bool.{false}
use native.Mathlib.Omega.{arith}
use borrow.Author.Rules.{rules}
use lib.ListN.{length}
use Rattle.form.specs.Form.{way_no, same_rule}
use Rattle.form.specs.Spans.{part}
use Rattle.form.specs.Turned.{recoded}
use Rattle.form.proofs.Spans.{part_length}
use Rattle.form.proofs.Turned.{recoded-same}
use Rattle.recode.proofs.Outputs.{copied}
use Rattle.recode.proofs.put_string.Statement.{statement}
use Rattle.recode.proofs.put_string.Tie as tie

abbrev start_of : tie.After-same_rule → tie.Start
start_of c = c.before.before.before

-- the rule is the same, so the string is its bytes
as_is : (c : tie.Then-same_rule) → let a = (start_of c.before).args in let l = part a.doc.now a.start a.size in recoded (way_no a.way) l ≡ l
as_is c =
    let a = (start_of c.before).args in
    recoded-same (way_no a.way) (part a.doc.now a.start a.size) (sym c.before.same_rule.ensures ∙ c.if-same_rule.true)

-- or it is not
other : (c : tie.Else-same_rule) → let way = way_no (start_of c.before).args.way in same_rule way.from.strings way.to.strings ≡ false
other c = sym c.before.same_rule.ensures ∙ c.if-same_rule.false

-- where the span is given by its end too
ended : (c : tie.After-same_rule) → let a = (start_of c).args in a.start + a.size - a.start ≡ a.size
ended c = omega arith

copy-requires : tie.Need-copy-requires
copy-requires c κs =
    let start = start_of c.before.before in
    let a = start.args in
    let pre = start.requires in
    (pre.0, omega (arith, pre.1, ap length (as_is c.before), part_length a.doc.now a.start a.size pre.0))

returns : tie.Need-returns-then-same_rule
returns c =
    let at_copy = c.before.before in
    let at_test = at_copy.before.before in
    let start = start_of at_test.before in
    let a = start.args in
    copied _ a.doc.now a.out.now _ a.start a.size a.at start.requires.0 (as_is at_test) at_copy.copy.ensures

put_other-requires : tie.Need-put_other-requires
put_other-requires c κs =
    let at_test = c.before.before in
    (rw (ended at_test.before) (start_of at_test.before).requires.1, other at_test)

returns-2 : tie.Need-returns
returns-2 c =
    let at-put = c.before.before in
    let at_test = at-put.before.before.before in
    rw (ended at_test.before) at at-put.put_other.ensures

pub put_string_spec : {M : Type 1} → statement M
put_string_spec =
    tie.close
    (tie.spec
    (λ c κs. search rules)
    copy-requires
    (λ c. search rules)
    (λ c. search rules)
    returns
    (λ c. search rules)
    (λ c. search rules)
    (λ c. search rules)
    (λ c. search rules)
    put_other-requires
    (λ c. search rules)
    returns-2)
