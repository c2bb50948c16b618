-- Three stores side by side.
-- Assumes nothing.
use mathlib.Core.List.{[], ◌∷◌}
use native.Mathlib.Omega.{arith}
use lib.ListN.{length-set}
use borrow.Author.Rules.{rules}
use Rattle.form.proofs.Table.{sets_over}
use Rattle.snbt.proofs.scratch.put_root.Statement.{statement}
use Rattle.snbt.proofs.scratch.put_root.Tie as tie

pub put_root_spec : {M : Type 1} → statement M
put_root_spec =
    tie.close
    (tie.spec
    (λ c. search rules)
    (λ c. simp length-set (omega arith))
    (λ c. simp length-set (omega arith))
    (λ c. search rules)
    (λ c. sets_over (10 ∷ 0 ∷ 0 ∷ []) c.args.out.now 0 (omega arith)))
