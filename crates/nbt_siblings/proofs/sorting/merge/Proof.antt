-- `merge` meets its contract: what is taken from the front of either list goes to the front of the third.
-- Assumes nothing.
use native.Mathlib.Omega.{arith}
use mathlib.Core.Bool.{Bool, true, false}
use Prim.Native.Nat.{◌+◌}
use Rattle.nbt_siblings.specs.Links.{rank}
use Rattle.nbt_siblings.specs.Lists.{Picked}
use Rattle.nbt_siblings.proofs.Runs.{Merging, Either, merging_start, merging-swap, merging-fit, merging-one, merging-end}
use Rattle.nbt_siblings.proofs.sorting.merge.Statement.{statement}
use Rattle.nbt_siblings.proofs.sorting.merge.Tie as tie

abbrev Inv : tie.invariant-loop-p
Inv doc table₀ a na b nb up x₀ y₀ p₀ q₀ acc₀ table x y p q acc = Merging doc table₀ (na + nb) up (λ z. Either table₀ a na b nb z) table x p y q acc

abbrev μ : tie.decreases-loop-p
μ doc table₀ a na b nb up x₀ y₀ p₀ q₀ acc₀ table x y p q acc = p + q

-- what was picked
abbrev Picks : tie.After-pick Inv μ → Bool → Type 0
Picks c b =
    let l = c.loop-p in
    let a = c.args in
    Picked a.up l.p l.q (rank a.doc.now l.table l.x) (rank a.doc.now l.table l.y) b

one : (c : tie.Then-pick Inv μ) → Picks c.before true
one c = rw c.if-pick.true at c.pick.ensures

two : (c : tie.Else-pick Inv μ) → Picks c.before false
two c = rw c.if-pick.false at c.pick.ensures

pick-requires : tie.Need-pick-requires Inv μ
pick-requires c κs =
    let fit = c.requires.fit in
    let i = c.loop-p.invariant in
    (c.loop-p-test.true, merging-fit fit i, merging-fit fit (merging-swap i))

relink-requires : tie.Need-relink-next-requires Inv μ
relink-requires c κs = ((merging-fit c.requires.fit c.loop-p.invariant (one c.before).0).room, c.loop-p.invariant.small)

loop-again : tie.Need-loop-p-preserved-then-pick Inv μ
loop-again c =
    let picked = one c.before.before.before.before in
    let e = c.relink-next.ensures in
    merging-one c.requires.fit c.loop-p.invariant picked.0 picked.1 e.0 e.1

relink-requires-2 : tie.Need-relink-next-requires-else-pick Inv μ
relink-requires-2 c κs = ((merging-fit c.requires.fit (merging-swap c.loop-p.invariant) (two c.before).0).room, c.loop-p.invariant.small)

loop-again-2 : tie.Need-loop-p-preserved Inv μ
loop-again-2 c =
    let picked = two c.before.before.before.before in
    let e = c.relink-next-else-pick.ensures in
    merging-swap (merging-one c.requires.fit (merging-swap c.loop-p.invariant) picked.0 picked.1 e.0 e.1)

pub merge_spec : {M : Type 1} → statement M
merge_spec =
    tie.close
    (tie.spec
    Inv
    μ
    (λ c. merging_start _ _ _ _ _ _ _ c.requires)
    (λ c. omega (arith, c.loop-p.invariant.le, c.requires.few))
    pick-requires
    relink-requires
    (λ c. omega (arith, (one c.before.before.before.before).0))
    (λ c. omega (arith, (one c.before.before.before.before).0))
    loop-again
    relink-requires-2
    (λ c. omega (arith, (two c.before.before.before.before).0))
    (λ c. omega (arith, (two c.before.before.before.before).0))
    loop-again-2
    (λ c. c.loop-p.invariant.agree.len)
    (λ c. merging-end c.requires.fit c.loop-p.invariant c.loop-p-test.false))
