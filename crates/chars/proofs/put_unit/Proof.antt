-- Right by the form that the unit takes.
-- Assumes nothing.
use mathlib.Core.Path.{ap}
use native.Mathlib.Omega.{arith}
use borrow.Author.Rules.{rules}
use lib.ListN.{length}
use Rattle.form.proofs.Units.{ub-one, ub-nul, ub-two, ub-three}
use Rattle.chars.proofs.Puts.{one-put}
use Rattle.chars.proofs.put_unit.Statement.{statement}
use Rattle.chars.proofs.put_unit.Tie as tie

-- the unit is 0; 128 or more; below 2048; and 2048 or more
abbrev zero_of : tie.After-put_two-arg-1 → tie.Start
zero_of c = c.before.before.before

abbrev more_of : tie.Else-u-lt128 → tie.Start
more_of c = c.before.before.before

abbrev two-of : tie.After-put_two-arg-then-u-lt2048-1 → tie.Start
two-of c = more_of c.before.before

abbrev three-of : tie.After-put_three-arg-1 → tie.Start
three-of c = more_of c.before.before

pub put_unit_spec : {M : Type 1} → statement M
put_unit_spec =
    tie.close
    (tie.spec
    (λ c κs. let a = zero_of c in (omega arith, omega (arith, ap length (ub-nul a.args.u (omega arith)), a.requires.1)))
    (λ c. search rules)
    (λ c. let p = c.before.before in rw (ub-nul (zero_of p.before).args.u (omega arith)) p.put_two.ensures)
    (λ c. search rules)
    (λ c. let a = c.before.before.before in omega (arith, ap length (ub-one a.args.u (omega arith) (omega arith)), a.requires.1))
    (λ c. search rules)
    (λ c. let a = c.before.before.before in let e = ub-one a.args.u (omega arith) (omega arith) in
    rw e (one-put a.args.out.now a.args.at a.args.u (omega (arith, ap length e, a.requires.1))))
    (λ c κs. let a = two-of c in (omega arith, omega (arith, ap length (ub-two a.args.u (omega arith) (omega arith)), a.requires.1)))
    (λ c. search rules)
    (λ c. let p = c.before.before in rw (ub-two (two-of p.before).args.u (omega arith) (omega arith)) p.put_two-then-u-lt2048.ensures)
    (λ c κs. let a = three-of c in (omega arith, omega (arith, ap length (ub-three a.args.u (omega arith)), a.requires.1)))
    (λ c. search rules)
    (λ c. let p = c.before.before in rw (ub-three (three-of p.before).args.u (omega arith)) p.put_three.ensures))
