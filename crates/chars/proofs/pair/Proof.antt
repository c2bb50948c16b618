-- Right since the ten bits of each half are a product and a remainder.
-- Assumes nothing.
use native.Mathlib.Omega.{arith}
use lib.Bits.{mask_lt, and_mask, bit_and}
use Rattle.form.specs.Decoding.{pair_of}
use Rattle.chars.proofs.Groups.{joined}
use Rattle.chars.proofs.pair.Statement.{statement}
use Rattle.chars.proofs.pair.Tie as tie

pub pair_spec : {M : Type 1} → statement M
pair_spec =
    tie.close
    (tie.spec
    (λ c. let m = mask_lt c.args.hi 10 in rw (joined 10 (bit_and c.args.hi 1023) c.args.lo (omega (arith, m))) (omega (arith, m)))
    (λ c. unfold pair_of in rw (joined 10 (bit_and c.args.hi 1023) c.args.lo (omega (arith, mask_lt c.args.hi 10)), and_mask c.args.hi 10)))
