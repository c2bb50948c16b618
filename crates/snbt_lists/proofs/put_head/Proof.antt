-- `put_head` meets its contract: the count right behind the kind.
-- Assumes nothing.
use mathlib.Core.Path.{◌∙◌}
use native.Mathlib.Omega.{arith}
use lib.ListN.{length-set}
use borrow.Author.Rules.{rules}
use Rattle.snbt_lists.proofs.Heads.{head-over}
use Rattle.snbt_lists.proofs.put_head.Statement.{statement}
use Rattle.snbt_lists.proofs.put_head.Tie as tie

pub put_head_spec : {M : Type 1} → statement M
put_head_spec =
    tie.close
    (tie.spec
    (λ c. search rules)
    (λ c. search rules)
    (λ c κs. (omega arith, simp length-set (omega arith)))
    (λ c.
    let a = c.args in
    c.put_number.auto.d ∙ length-set a.out.now a.at a.kind)
    (λ c.
    let a = c.args in
    head-over a.out.now _ a.at a.kind _ (omega arith) c.put_number.ensures))
