-- `print_single` is safe: what is rounded is no NaN.
-- Assumes nothing.
use mathlib.Core.Path.{sym, subst}
use mathlib.Core.Bool.{Bool, not}
use Prim.Native.Nat.{ℕ, ◌%◌, ◌^◌, ◌≤◌}
use lib.Arith.{le→nltb}
use lib.Dec.{T}
use lib.Ieee.{binary64, nan_bits}
use lib.Ieee.Bits.{nan_bits_is, nan_bits_above}
use borrow.Author.Rules.{rules}
use Rattle.replay_numbers.proofs.print_single.Statement.{statement}
use Rattle.replay_numbers.proofs.print_single.Tie as tie

-- bits without a sign that are an infinity's at most are no NaN's
some_number : (n : ℕ) → n % 2 ^ 63 ≤ 0x7ff0_0000_0000_0000 → T (not (nan_bits binary64 n))
some_number n h = subst (λ (b : Bool). T (not b)) (sym (nan_bits_above binary64 n)) (le→nltb 0x7ff0_0000_0000_0000 (n % 2 ^ 63) h)

write_all-requires : tie.Need-write_all-requires
write_all-requires c κs = search rules

returns : tie.Need-returns-then-bits-gt9218868437227405312
returns c = search rules

float_from_bits-f32_bits : tie.Need-float_from_bits-bits
float_from_bits-f32_bits c = some_number c.args.bits c.if-bits-gt9218868437227405312.false

f32_bits-requires : tie.Need-f32_bits-requires
f32_bits-requires c κs = subst (λ (b : Bool). T (not b)) (nan_bits_is binary64 c.args.bits) (some_number c.args.bits c.if-bits-gt9218868437227405312.false)

cast-print_hex : tie.Need-overflow_cast-f32_bits
cast-print_hex c = search rules

print_hex-requires : tie.Need-print_hex-requires
print_hex-requires c κs = search rules

write_all-requires-2 : tie.Need-write_all-requires-2
write_all-requires-2 c κs = search rules

returns-2 : tie.Need-returns
returns-2 c = search rules

pub print_single_spec : {M : Type 1} → statement M
print_single_spec =
    tie.close
    (tie.spec
    write_all-requires
    returns
    float_from_bits-f32_bits
    f32_bits-requires
    cast-print_hex
    print_hex-requires
    write_all-requires-2
    returns-2)
