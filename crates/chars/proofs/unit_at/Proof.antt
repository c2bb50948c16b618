-- Right by its tests, one for each of the definition, on the bytes that stand at the place.
-- Assumes nothing.
use Prim.Native.Nat.{◌+◌}
use mathlib.Core.Path.{sym, ◌∙◌}
use native.Mathlib.Omega.{arith}
use borrow.Author.Rules.{rules}
use lib.ListN.{drop_of_length-le}
use Rattle.form.proofs.Drops.{drop1, drop2, drop3}
use Rattle.chars.proofs.Sequences.{unit-none, unit-zero, unit-plain, unit-stray, unit-lead, unit-two, unit-high, unit-cut, unit-three}
use Rattle.chars.proofs.unit_at.Statement.{statement}
use Rattle.chars.proofs.unit_at.Tie as tie

-- the first byte has been read; it begins more than one byte; the second has been read; it begins three
abbrev read_of : tie.After-shared_slice_known-2-1 → tie.Start
read_of c = c.before.before.before

abbrev more_of : tie.Else-a-lt192 → tie.Start
more_of c = read_of c.before.before.before

abbrev second-of : tie.After-shared_slice_known-3-1 → tie.Start
second-of c = more_of c.before.before

abbrev three-of : tie.Else-a-ge240 → tie.Start
three-of c = second-of c.before.before

pub unit_at_spec : {M : Type 1} → statement M
unit_at_spec =
    tie.close
    (tie.spec
    (λ c. let a = c.before.before.args in rw (drop_of_length-le a.s.now {i = a.at} (omega arith)) (sym unit-none))
    (λ c. search rules)
    (λ c. let a = (read_of c.before).args in rw (drop1 a.s.now a.at (omega arith)) (sym (unit-zero _ _ (omega arith))))
    (λ c. search rules)
    (λ c. let a = (read_of c.before.before).args in rw (drop1 a.s.now a.at (omega arith)) (sym (unit-plain _ _ (omega arith) (omega arith))))
    (λ c. let a = (read_of c.before.before.before).args in rw (drop1 a.s.now a.at (omega arith)) (sym (unit-stray _ _ (omega arith) (omega arith))))
    (λ c. search rules)
    (λ c. let a = (more_of c.before).args in
    rw (drop1 a.s.now a.at (omega arith), drop_of_length-le a.s.now {i = a.at + 1} (omega arith)) (sym (unit-lead _ _ (omega arith))))
    (λ c. search rules)
    (λ c. search rules)
    (λ c κs. search rules)
    (λ c. let a = (second-of c.before.before).args in
    rw (drop2 a.s.now a.at (omega arith)) (c.two.ensures ∙ sym (unit-two _ _ _ (omega arith) (omega arith))))
    (λ c. let a = (second-of c.before.before).args in rw (drop2 a.s.now a.at (omega arith)) (sym (unit-high _ _ (omega arith))))
    (λ c. let a = (three-of c.before).args in
    rw (drop2 a.s.now a.at (omega arith), drop_of_length-le a.s.now {i = a.at + 2} (omega arith)) (sym (unit-cut _ _ (omega arith) (omega arith))))
    (λ c. search rules)
    (λ c. search rules)
    (λ c κs. search rules)
    (λ c. let a = (three-of c.before.before.before).args in
    rw (drop3 a.s.now a.at (omega arith)) (c.three.ensures ∙ sym (unit-three _ _ _ _ (omega arith) (omega arith)))))
