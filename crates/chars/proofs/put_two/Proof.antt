-- Right since the two stores are the bytes of the two groups.
-- Assumes nothing.
use Prim.Native.Nat.{◌/◌}
use native.Mathlib.Omega.{arith}
use borrow.Author.Rules.{rules}
use lib.ListN.{length-set}
use Rattle.chars.proofs.Groups.{lead-two}
use Rattle.chars.proofs.Puts.{two-put}
use Rattle.chars.proofs.put_two.Statement.{statement}
use Rattle.chars.proofs.put_two.Tie as tie

pub put_two_spec : {M : Type 1} → statement M
put_two_spec =
    tie.close
    (tie.spec
    (λ c. search rules)
    (λ c. search rules)
    (λ c κs. search rules)
    (λ c. search rules)
    (λ c. simp length-set (omega arith))
    (λ c. search rules)
    (λ c. let a = c.before.before.args in two-put a.out.now a.at _ _ _ _ (omega arith) (lead-two (a.u / 64) (omega arith)) c.group.ensures))
