-- `pick` meets its contract.
-- Assumes nothing.
use Prim.Native.Nat.{◌<◌}
use native.Mathlib.Omega.{arith}
use Rattle.nbt_siblings.proofs.Orders.{picked-up, picked-down}
use Rattle.nbt_siblings.proofs.sorting.pick.Statement.{statement}
use Rattle.nbt_siblings.proofs.sorting.pick.Tie as tie

-- neither list is empty
some : (c : tie.Else-p-eq0) → (0 < c.args.p) × (0 < c.args.q)
some c = (omega (arith, c.if-p-eq0.false), omega (arith, c.if-q-eq0.false))

sooner-requires : tie.Need-sooner-requires
sooner-requires c κs = (c.requires.1 (some c.before).0, c.requires.2 (some c.before).1)

sooner-requires-2 : tie.Need-sooner-requires-else-up
sooner-requires-2 c κs = (c.requires.2 (some c.before).1, c.requires.1 (some c.before).0)

returns-3 : tie.Need-returns-then-up
returns-3 c =
    let h = some c.before.before in
    picked-up _ _ _ _ h.0 h.1 _ c.if-up.true c.sooner.result c.sooner.ensures

returns-4 : tie.Need-returns-else-up
returns-4 c =
    let h = some c.before.before in
    picked-down _ _ _ _ h.0 h.1 _ c.if-up.false c.sooner-else-up.result c.sooner-else-up.ensures

pub pick_spec : {M : Type 1} → statement M
pick_spec =
    tie.close
    (tie.spec
    (λ c. (omega arith, λ l. absurd (omega arith)))
    (λ c. (omega arith, λ l. absurd (omega arith)))
    sooner-requires
    sooner-requires-2
    returns-3
    returns-4)
