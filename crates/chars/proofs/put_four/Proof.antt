-- Right since the four stores are the bytes of the four groups.
-- Assumes nothing.
use Prim.Native.Nat.{◌/◌}
use native.Mathlib.Omega.{arith}
use borrow.Author.Rules.{rules}
use lib.ListN.{length-set}
use Rattle.chars.proofs.Groups.{lead-four}
use Rattle.chars.proofs.Puts.{four-put}
use Rattle.chars.proofs.put_four.Statement.{statement}
use Rattle.chars.proofs.put_four.Tie as tie

returns : tie.Need-returns
returns c =
    let third = c.before in
    let second = third.before in
    let a = second.before.before.args in
    four-put a.out.now a.at _ _ _ _ _ _ _ _ (omega arith) (lead-four (a.u / 262144) (omega arith)) second.group.ensures third.group-2.ensures c.group-3.ensures

pub put_four_spec : {M : Type 1} → statement M
put_four_spec =
    tie.close
    (tie.spec
    (λ c. search rules)
    (λ c. search rules)
    (λ c κs. search rules)
    (λ c. search rules)
    (λ c. simp length-set (omega arith))
    (λ c κs. search rules)
    (λ c. search rules)
    (λ c. simp length-set (omega arith))
    (λ c κs. search rules)
    (λ c. search rules)
    (λ c. simp length-set (omega arith))
    (λ c. search rules)
    returns)
