-- `half` meets its contract: what was linked is undone.
-- Assumes nothing.
use native.Mathlib.Omega.{arith}
use mathlib.Core.Path.{◌≡◌, ap}
use lib.ListN.{length}
use Rattle.nbt_siblings.proofs.Wiping.{wiped-back}
use Rattle.nbt_siblings.proofs.cells.half.Statement.{statement}
use Rattle.nbt_siblings.proofs.cells.half.Tie as tie

back : (c : tie.After-wipe) → c.wipe.new.table ≡ c.args.table.now
back c = wiped-back c.requires.1 c.enter-r.ensures.0 c.wipe.ensures

wipe-requires : tie.Need-wipe-requires
wipe-requires c κs = (omega (arith, c.requires.0.wide), omega (arith, c.requires.0.room, c.enter-r.ensures.0.len))

pub half_spec : {M : Type 1} → statement M
half_spec =
    tie.close
    (tie.spec
    (λ c κs. c.requires)
    wipe-requires
    (λ c. ap length (back c.before.before))
    (λ c. (back c.before.before, c.enter-r.ensures.1)))
