-- Right by its tests, one for each of the definition.
-- Assumes nothing.
use mathlib.Core.Path.{◌≡◌}
use native.Mathlib.Omega.{arith}
use borrow.Author.Tests.{lt-ltb, le-ltb, le-leb, eq-eqb, ne_eqb}
use lib.Dec.{ltb, eqb}
use lib.Bits.{mask_lt}
use Rattle.form.specs.Answer.{pick}
use Rattle.form.specs.Decoding.{is, stuck, two_of}
use Rattle.chars.proofs.Sequences.{two_is}
use Rattle.chars.proofs.two.Statement.{statement}
use Rattle.chars.proofs.two.Tie as tie

abbrev start_of : tie.After-join-u → tie.Start
start_of c = c.before.before.before

-- b follows a lead byte
joined : (c : tie.After-join-u) → let u = c.join-u.result in
    two_of (start_of c).args.a (start_of c).args.b ≡ pick (eqb u 0) (is u 2) (pick (ltb u 128) stuck (is u 2))
joined c = two_is _ _ _ (omega arith) (omega arith) c.join-u.ensures

pub two_spec : {M : Type 1} → statement M
two_spec =
    tie.close
    (tie.spec
    (λ c. unfold two_of in simp (lt-ltb c.before.args.b 128 (omega arith)))
    (λ c. unfold two_of in let b = c.before.before.args.b in simp (le-ltb b 128 (omega arith), le-leb 192 b (omega arith)))
    (λ c. omega (arith, mask_lt c.before.before.args.a 5))
    (λ c κs. omega (arith, mask_lt c.before.before.args.a 5))
    (λ c. rw (joined c.before) (simp (eq-eqb _ _ c.if-u-eq0.true)))
    (λ c. rw (joined c.before.before) (simp (ne_eqb _ _ c.before.if-u-eq0.false, lt-ltb _ _ c.if-u-lt128.true)))
    (λ c. rw (joined c.before.before) (simp (ne_eqb _ _ c.before.if-u-eq0.false, le-ltb _ _ c.if-u-lt128.false))))
