-- Right by the form that the value takes.
-- Assumes nothing.
use mathlib.Core.Path.{ap}
use native.Mathlib.Omega.{arith}
use borrow.Author.Rules.{rules}
use lib.ListN.{length}
use Rattle.form.proofs.Utf8.{high_is}
use Rattle.chars.proofs.Puts.{one-put, u8-one, u8-two, u8-three}
use Rattle.chars.proofs.put_utf8.Statement.{statement}
use Rattle.chars.proofs.put_utf8.Tie as tie

-- the value is below 128; below 2048; below 65536; and 65536 or more
abbrev one_of : tie.Then-c-lt128 → tie.Start
one_of c = c.before.before

abbrev more_of : tie.Else-c-lt128 → tie.Start
more_of c = c.before.before

abbrev two-of : tie.After-put_two-arg-1 → tie.Start
two-of c = more_of c.before.before

abbrev three-of : tie.After-put_three-arg-1 → tie.Start
three-of c = more_of c.before.before.before

abbrev four-of : tie.After-put_four-arg-1 → tie.Start
four-of c = more_of c.before.before.before

pub put_utf8_spec : {M : Type 1} → statement M
put_utf8_spec =
    tie.close
    (tie.spec
    (λ c. search rules)
    (λ c. let a = one_of c in omega (arith, ap length (u8-one a.args.c (omega arith)), a.requires.1))
    (λ c. search rules)
    (λ c. let a = one_of c in let e = u8-one a.args.c (omega arith) in
    rw e (one-put a.args.out.now a.args.at a.args.c (omega (arith, ap length e, a.requires.1))))
    (λ c κs. let a = two-of c in (omega arith, omega (arith, ap length (u8-two a.args.c (omega arith) (omega arith)), a.requires.1)))
    (λ c. search rules)
    (λ c. let p = c.before.before in rw (u8-two (two-of p.before).args.c (omega arith) (omega arith)) p.put_two.ensures)
    (λ c κs. let a = three-of c in (omega arith, omega (arith, ap length (u8-three a.args.c (omega arith) (omega arith)), a.requires.1)))
    (λ c. search rules)
    (λ c. let p = c.before.before in rw (u8-three (three-of p.before).args.c (omega arith) (omega arith)) p.put_three.ensures)
    (λ c κs. let a = four-of c in (a.requires.0, omega (arith, ap length (high_is a.args.c (omega arith)), a.requires.1)))
    (λ c. search rules)
    (λ c. let p = c.before.before in rw (high_is (four-of p.before).args.c (omega arith)) p.put_four.ensures))
