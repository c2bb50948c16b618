-- Right by its tests, one for each of the definition.
-- Assumes nothing.
use mathlib.Core.Path.{◌≡◌}
use native.Mathlib.Omega.{arith}
use borrow.Author.Tests.{lt-ltb, le-ltb, le-leb, lt-leb}
use lib.Dec.{ltb, leb}
use lib.Bits.{mask_lt}
use Rattle.form.specs.Answer.{pick}
use Rattle.form.specs.Decoding.{is, stuck, four_of}
use Rattle.chars.proofs.Sequences.{follows, four_is}
use Rattle.chars.proofs.four.Statement.{statement}
use Rattle.chars.proofs.four.Tie as tie

-- b, c and d have been tested
abbrev b-of : tie.Else-b-ge192 → tie.Start
b-of c = c.before.before

abbrev c-of : tie.Else-c-ge192 → tie.Start
c-of c = b-of c.before.before

abbrev d-of : tie.Else-d-ge192 → tie.Start
d-of c = c-of c.before.before

joined : (c : tie.After-join-u) → let a = (d-of c.before.before.before).args in let u = c.join-u.result in
    four_of a.a a.b a.c a.d ≡ pick (ltb u 65536) stuck (pick (leb 1114112 u) stuck (is u 4))
joined c =
    four_is _ _ _ _ _ _ _ (omega arith) (omega arith) (omega arith) (omega arith) (omega arith) (omega arith)
    c.before.before.join.ensures c.before.join-2.ensures c.join-u.ensures

pub four_spec : {M : Type 1} → statement M
four_spec =
    tie.close
    (tie.spec
    (λ c. unfold four_of in simp (lt-ltb c.before.args.b 128 (omega arith)))
    (λ c. unfold four_of in let b = c.before.before.args.b in simp (le-ltb b 128 (omega arith), le-leb 192 b (omega arith)))
    (λ c. unfold four_of in let a = (b-of c.before).args in rw (follows a.b (omega arith) (omega arith)) (simp (lt-ltb a.c 128 (omega arith))))
    (λ c. unfold four_of in let a = (b-of c.before.before).args in
    rw (follows a.b (omega arith) (omega arith)) (simp (le-ltb a.c 128 (omega arith), le-leb 192 a.c (omega arith))))
    (λ c. unfold four_of in let a = (c-of c.before).args in
    rw (follows a.b (omega arith) (omega arith), follows a.c (omega arith) (omega arith)) (simp (lt-ltb a.d 128 (omega arith))))
    (λ c. unfold four_of in let a = (c-of c.before.before).args in
    rw (follows a.b (omega arith) (omega arith), follows a.c (omega arith) (omega arith)) (simp (le-ltb a.d 128 (omega arith), le-leb 192 a.d (omega arith))))
    (λ c. omega (arith, mask_lt (d-of c).args.a 3))
    (λ c κs. omega (arith, mask_lt (d-of c).args.a 3))
    (λ c κs. omega (arith, mask_lt (d-of c.before).args.a 3, c.join.ensures))
    (λ c κs. omega (arith, mask_lt (d-of c.before.before).args.a 3, c.before.join.ensures, c.join-2.ensures))
    (λ c. rw (joined c.before) (simp (lt-ltb _ _ c.if-u-lt65536.true)))
    (λ c. rw (joined c.before.before) (simp (le-ltb _ _ c.before.if-u-lt65536.false, le-leb 1114112 c.join-u.result (omega arith))))
    (λ c. rw (joined c.before.before) (simp (le-ltb _ _ c.before.if-u-lt65536.false, lt-leb 1114112 c.join-u.result (omega arith)))))
