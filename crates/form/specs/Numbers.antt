-- Rule 1: numbers are two's complement, big-endian or, in the pocket edition's form (02, [2]), little-endian, and floats are carried as their
-- bits. Everything is stated over the width.
-- Assumes nothing.
use Rattle.std.specs.Prelude.{ℕ, zero, suc, ◌+◌, ◌-◌, ◌*◌, ◌/◌, ◌%◌, ◌^◌, ◌<◌, ltb, ℤ, pos, negsuc}
use mathlib.Core.List.{List, [], ◌∷◌, ◌++◌, foldl, reverse}
use Rattle.form.specs.Answer.{pick}
use Rattle.form.specs.Form.{Order, big, little}

-- The number that digits of base 256 are, the highest first.
unfoldable pub value : List ℕ → ℕ
value = foldl (λ n b. n * 256 + b) 0

-- The w lowest digits of v, the highest first.
unfoldable pub digits : ℕ → ℕ → List ℕ
digits zero v = []
digits (suc w) v = digits w (v / 256) ++ (v % 256 ∷ [])

-- Byte order: the digits that bytes are, and back. The highest first as they stand, the lowest first turned round.
abbrev pub ordered : Order → List ℕ → List ℕ
ordered big bs = bs
ordered little bs = reverse bs

-- The number in some bytes.
abbrev pub number_in : Order → List ℕ → ℕ
number_in o bs = value (ordered o bs)

-- The w bytes of a number.
abbrev pub bytes_in : Order → ℕ → ℕ → List ℕ
bytes_in o w v = ordered o (digits w v)

-- Rule 1's own order.
abbrev pub big_endian : List ℕ → ℕ
big_endian bs = number_in big bs

abbrev pub bytes_of : ℕ → ℕ → List ℕ
bytes_of w v = bytes_in big w v

-- How many values w bytes have; from the half of them on they are negative.
abbrev pub values_in : ℕ → ℕ
values_in w = 256 ^ w

-- Two's complement: the integer that the bits b of w bytes stand for.
abbrev pub signed_of : ℕ → ℕ → ℤ
signed_of w b = pick (ltb b (values_in w / 2)) (pos b) (negsuc (values_in w - suc b))

-- Two's complement: the bits of an integer in w bytes.
abbrev pub bits_of : ℕ → ℤ → ℕ
bits_of w (pos n) = n
bits_of w (negsuc n) = values_in w - suc n

-- An integer fits w bytes.
abbrev pub FitsIn : ℕ → ℤ → Type 0
FitsIn w (pos n) = n < values_in w / 2
FitsIn w (negsuc n) = n < values_in w / 2
