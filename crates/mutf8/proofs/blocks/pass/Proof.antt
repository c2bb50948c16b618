-- Right since each block and each end that was passed is of values that both codings read alike.
-- Assumes nothing.
use Prim.Native.Nat.{◌-◌, ◌≤◌}
use mathlib.Core.Path.{sym, ◌∙◌}
use native.Mathlib.Omega.{arith}
use borrow.Author.Rules.{rules}
use lib.ListN.{length}
use Rattle.plain.proofs.Plains.{run_is}
use Rattle.mutf8.specs.Runs.{Passed}
use Rattle.mutf8.proofs.Alike.{plain-passed, blocks-passed, short-passed, passed_none, passed-join}
use Rattle.mutf8.proofs.blocks.pass.Statement.{statement}
use Rattle.mutf8.proofs.blocks.pass.Tie as tie

abbrev Inv : tie.invariant-loop-i
Inv s at i₀ i = (i ≤ length s) × Passed s at i

abbrev μ : tie.decreases-loop-i
μ s at i₀ i = length s - i

-- the turn of a block, plain or not; and the end of the turns
abbrev turn-of : tie.After-all_plain Inv μ → tie.At-loop-i Inv μ
turn-of c = c.before.before

abbrev mixed-of : tie.After-mixed-j Inv μ → tie.At-loop-i Inv μ
mixed-of c = turn-of c.before.before

abbrev end_of : tie.After-is_plain Inv μ → tie.At-loop-i Inv μ
end_of c = c.before.before.before

pub pass_spec : {M : Type 1} → statement M
pass_spec =
    tie.close
    (tie.spec
    Inv
    μ
    (λ c. (c.before.requires, passed_none _ _ c.before.requires))
    (λ c. omega arith)
    (λ c κs. omega arith)
    (λ c. omega arith)
    (λ c. omega arith)
    (λ c. let block = run_is _ _ _ _ 64 (sym c.before.all_plain.ensures ∙ c.if-all_plain.true) in
    (omega arith, passed-join _ _ _ _ (turn-of c.before).loop-i.invariant.1 (plain-passed _ _ _ (omega arith) (omega arith) block)))
    (λ c κs. (turn-of c.before).loop-i.invariant.0)
    (λ c κs. ((mixed-of c.before).loop-i.invariant.0, omega arith))
    (λ c. passed-join _ _ _ _ (mixed-of c.before.before).loop-i.invariant.1 (blocks-passed _ _ _ c.plain_blocks.ensures))
    (λ c. omega (arith, c.before.mixed-j.ensures.within))
    (λ c. let m = c.before.mixed-j.ensures in (m.within, passed-join _ _ _ _ (mixed-of c.before).loop-i.invariant.1 m))
    (λ c. omega arith)
    (λ c. omega arith)
    (λ c. omega arith)
    (λ c κs. search rules)
    (λ c. let v = (end_of c.before).loop-i.invariant in passed-join _ _ _ _ v.1 (short-passed _ _ v.0 (sym c.before.is_plain.ensures ∙ c.if-is_plain.true)))
    (λ c κs. ((end_of c.before).loop-i.invariant.0, omega arith))
    (λ c. passed-join _ _ _ _ (end_of c.before.before).loop-i.invariant.1 (blocks-passed _ _ _ c.plain_blocks-2.ensures)))
