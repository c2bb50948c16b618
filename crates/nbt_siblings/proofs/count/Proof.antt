-- `count` meets its contract.
-- Assumes nothing.
use native.Mathlib.Omega.{arith}
use Prim.Native.Nat.{◌+◌, ◌*◌, ◌-◌, ◌≤◌, ◌<◌}
use lib.ListN.{length}
use Rattle.nbt_siblings.specs.Names.{end_of}
use Rattle.nbt_siblings.proofs.Rows.{Counting, counting-start, counting-end, counting-here, counting-next}
use Rattle.nbt_siblings.proofs.count.Statement.{statement}
use Rattle.nbt_siblings.proofs.count.Tie as tie

abbrev Inv : tie.invariant-loop-i
Inv table first stop n₀ i₀ n i = Counting table stop first n i

abbrev μ : tie.decreases-loop-i
μ table first stop n₀ i₀ n i = stop - i

-- what is required of the record at hand
here : (c : tie.In-loop-i Inv μ) →
    let i = c.before.loop-i.i in
    let t = c.before.before.before.args.table.now in
    (9 * i + 9 ≤ length t) × (i < end_of t i)
here c = c.before.before.before.requires.0 _ (counting-here c.before.loop-i.invariant c.loop-i-test.true)

pub count_spec : {M : Type 1} → statement M
count_spec =
    tie.close
    (tie.spec
    Inv
    μ
    (λ c. counting-start _ _ _)
    (λ c κs. ((here c).0, omega arith))
    (λ c. omega (arith, c.before.before.loop-i.invariant.n_le))
    (λ c. omega (arith, c.word-i.ensures, (here c.before).1))
    (λ c. let turn = c.before in rw c.word-i.ensures (counting-next turn.before.loop-i.invariant turn.loop-i-test.true (here turn).1))
    (λ c. counting-end c.before.loop-i.invariant c.loop-i-test.false))
