-- `snbt_keys::order_name` meets its contract: std's order of slices is that of names.
-- Assumes nothing.
use Rattle.std.proofs.Common.{◌≡◌, ◌+◌, ◌-◌, take, arith}
use Rattle.snbt_keys.specs.Keys.{name_at}
use Rattle.snbt_keys.proofs.Orders.{order-is}
use Rattle.snbt_keys.proofs.order_name.Goals as goal

pub returns : goal.returns
unfolding name_at
returns c =
    let a = c.args in
    let e : a.place + 2 + c.u16_at.result - (a.place + 2) ≡ c.u16_at.result = omega arith in
    rw (c.cmp.ensures, e, c.u16_at.ensures) (order-is (name_at a.out.now a.place) (take a.size a.key.now))
