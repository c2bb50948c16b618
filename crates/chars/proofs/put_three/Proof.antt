-- Right since the three stores are the bytes of the three groups.
-- Assumes nothing.
use Prim.Native.Nat.{◌/◌}
use native.Mathlib.Omega.{arith}
use borrow.Author.Rules.{rules}
use lib.ListN.{length-set}
use Rattle.chars.proofs.Groups.{lead-three}
use Rattle.chars.proofs.Puts.{three-put}
use Rattle.chars.proofs.put_three.Statement.{statement}
use Rattle.chars.proofs.put_three.Tie as tie

pub put_three_spec : {M : Type 1} → statement M
put_three_spec =
    tie.close
    (tie.spec
    (λ c. search rules)
    (λ c. search rules)
    (λ c κs. search rules)
    (λ c. search rules)
    (λ c. simp length-set (omega arith))
    (λ c κs. search rules)
    (λ c. search rules)
    (λ c. simp length-set (omega arith))
    (λ c. search rules)
    (λ c. let a = c.before.before.before.args in
    three-put a.out.now a.at _ _ _ _ _ _ (omega arith) (lead-three (a.u / 4096) (omega arith)) c.before.group.ensures c.group-2.ensures))
