-- `decimal::scaled_or_beyond` meets its contract: minus zero is a zero with a sign.
-- Assumes nothing.
use borrow.Author.Tests.{eq-eqb}
use lib.IntN.{pos}
use lib.Ieee.{fin, neg, of_bits, binary64}
use Rattle.std.proofs.Common.{◌≡◌, true, refl}
use Rattle.snbt_floats.proofs.decimal.scaled_or_beyond.Goals as goal

minus-zero : neg (of_bits binary64 0) ≡ fin true 0 (pos 0)
unfolding of_bits neg
minus-zero = refl

pub returns-then-negative : goal.returns-then-negative
returns-then-negative c place = simp (eq-eqb _ _ c.if-w-eq0.true, c.if-negative.true, minus-zero)
