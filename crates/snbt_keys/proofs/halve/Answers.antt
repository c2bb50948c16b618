-- `snbt_keys::halve` meets its contract: each name halves what is left, and where nothing is left the key belongs.
use Rattle.std.proofs.Common.{◌+◌, ◌-◌, ◌/◌, arith}
use Rattle.snbt_keys.proofs.Sides.{sides-up, sides-down, sides-taken, sides-free}
use Rattle.snbt_keys.proofs.halve.Goals as goal

pub loop-low-preserved-in-Less : goal.loop-low-preserved-in-Less
loop-low-preserved-in-Less c = sides-up c.requires.0 _ c.loop-low.invariant (omega arith) (omega arith) c.in-Less.ensures

pub loop-low-preserved : goal.loop-low-preserved
loop-low-preserved c = sides-down c.requires.0 _ c.loop-low.invariant (omega arith) (omega arith) c.in-Greater.ensures

pub returns-in-Equal : goal.returns-in-Equal
returns-in-Equal c =
    sides-taken c.requires.0 _ {m = c.loop-low.low + (c.loop-low.high - c.loop-low.low) / 2} c.loop-low.invariant (omega arith) (omega arith) c.in-Equal.ensures

pub returns : goal.returns
returns c = sides-free c.requires.0 _ c.loop-low.invariant c.loop-low-test.false
