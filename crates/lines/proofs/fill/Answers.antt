-- Right since the span is filled where it has a place, and else nothing is.
-- Assumes nothing.
use Rattle.std.proofs.Common.{◌≡◌, ◌-◌, length, take, drop, replicate, arith, rules}
use Rattle.lines.proofs.Buffers.{filled, filled-none}
use Rattle.lines.proofs.fill.Goals as goal

pub returns-then-from-end : goal.returns-then-from-end
returns-then-from-end c =
    let put : c.fill.new.self ≡ replicate (length (take (c.min-end.result - c.args.from) (drop c.args.from c.args.out.now))) c.args.b = search rules in
    filled _ _ _ _ _ _ (omega arith) c.min-end.ensures put

pub returns-else-from-end : goal.returns-else-from-end
returns-else-from-end c = filled-none _ _ _ _ _ c.if-from-end.false c.min-end.ensures
