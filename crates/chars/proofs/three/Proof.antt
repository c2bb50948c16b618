-- Right by its tests, one for each of the definition.
-- Assumes nothing.
use mathlib.Core.Path.{◌≡◌}
use native.Mathlib.Omega.{arith}
use borrow.Author.Tests.{lt-ltb, le-ltb, le-leb}
use lib.Dec.{ltb}
use lib.Bits.{mask_lt}
use Rattle.form.specs.Answer.{pick}
use Rattle.form.specs.Decoding.{is, stuck, three_of}
use Rattle.chars.proofs.Sequences.{follows, three-is}
use Rattle.chars.proofs.three.Statement.{statement}
use Rattle.chars.proofs.three.Tie as tie

-- b and c have been tested
abbrev b-of : tie.Else-b-ge192 → tie.Start
b-of c = c.before.before

abbrev c-of : tie.Else-c-ge192 → tie.Start
c-of c = b-of c.before.before

joined : (c : tie.After-join-u) → let a = (c-of c.before.before).args in let u = c.join-u.result in
    three_of a.a a.b a.c ≡ pick (ltb u 2048) stuck (is u 3)
joined c = three-is _ _ _ _ _ (omega arith) (omega arith) (omega arith) (omega arith) c.before.join.ensures c.join-u.ensures

pub three_spec : {M : Type 1} → statement M
three_spec =
    tie.close
    (tie.spec
    (λ c. unfold three_of in simp (lt-ltb c.before.args.b 128 (omega arith)))
    (λ c. unfold three_of in let b = c.before.before.args.b in simp (le-ltb b 128 (omega arith), le-leb 192 b (omega arith)))
    (λ c. unfold three_of in let a = (b-of c.before).args in rw (follows a.b (omega arith) (omega arith)) (simp (lt-ltb a.c 128 (omega arith))))
    (λ c. unfold three_of in let a = (b-of c.before.before).args in
    rw (follows a.b (omega arith) (omega arith)) (simp (le-ltb a.c 128 (omega arith), le-leb 192 a.c (omega arith))))
    (λ c. omega (arith, mask_lt (c-of c).args.a 4))
    (λ c κs. omega (arith, mask_lt (c-of c).args.a 4))
    (λ c κs. omega (arith, mask_lt (c-of c.before).args.a 4, c.join.ensures))
    (λ c. rw (joined c.before) (simp (lt-ltb _ _ c.if-u-lt2048.true)))
    (λ c. rw (joined c.before) (simp (le-ltb _ _ c.if-u-lt2048.false))))
