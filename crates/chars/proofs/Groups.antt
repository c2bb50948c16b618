-- Laws of bits: a group shifted in below others, taken out as a byte, and put on a lead byte, as sums.
-- Assumes nothing.
use Prim.Native.Nat.{ℕ, ◌+◌, ◌*◌, ◌%◌, ◌^◌, ◌<◌, ◌-◌}
use mathlib.Core.Path.{◌≡◌}
use native.Mathlib.Nat.{mod-eq_of_lt, mod-lt}
use lib.Pow.{pow_pos}
use lib.Bits.{bit_and, bit_or, and_mask, or_shifted, or_shifted_r}

-- a group of k bits below hi
pub joined : (k hi x : ℕ) → hi * 2 ^ k < 2 ^ 32 → bit_or (hi * 2 ^ k % 2 ^ 32) (bit_and x (2 ^ k - 1)) ≡ hi * 2 ^ k + x % 2 ^ k
joined k hi x h = rw (mod-eq_of_lt h, and_mask) (or_shifted hi k (x % 2 ^ k) (mod-lt x (pow_pos k)))

-- the lowest six bits as a byte that follows a lead byte
pub grouped : (u : ℕ) → bit_or (bit_and u 63) 128 ≡ 128 + u % 64
grouped u = rw (and_mask u 6) (or_shifted_r 2 6 (u % 64) (mod-lt u (pow_pos 6)))

pub lead-two : (x : ℕ) → x < 32 → bit_or x 192 ≡ 192 + x
lead-two x h = or_shifted_r 6 5 x h

pub lead-three : (x : ℕ) → x < 16 → bit_or x 224 ≡ 224 + x
lead-three x h = or_shifted_r 14 4 x h

pub lead-four : (x : ℕ) → x < 8 → bit_or x 240 ≡ 240 + x
lead-four x h = or_shifted_r 30 3 x h
