-- Hexadecimal digits, and the bytes that they stand for.
-- Assumes nothing.
use Rattle.std.specs.Prelude.{ℕ, ◌+◌, ◌-◌, ◌*◌, ◌/◌, ◌%◌, Bool, true, ◌&&◌, ◌≡◌, List, [], ◌∷◌, length, get_or, take, ltb, leb, eqb, Option, Some, None}
use Rattle.form.specs.Answer.{pick}
use Rattle.form.specs.Spans.{over}
use Rattle.lines.specs.Buffers.{firsts}
use Rattle.lines.specs.Fields.{too_many}

-- The value of a hexadecimal digit of either case, and 16 for any other byte.
unfoldable pub digit_of : ℕ → ℕ
digit_of b =
    pick (ltb b 48) 16
    (pick (ltb b 58) (b - 48)
    (pick (ltb b 65) 16
    (pick (ltb b 71) (b - 65 + 10)
    (pick (ltb b 97) 16
    (pick (ltb b 103) (b - 97 + 10) 16)))))

-- Whether each byte is such a digit.
unfoldable pub all_digits : List ℕ → Bool
all_digits [] = true
all_digits (b ∷ bs) = ltb (digit_of b) 16 && all_digits bs

-- The byte that two digits stand for, the higher first.
abbrev pub byte_of : ℕ → ℕ → ℕ
byte_of high low = digit_of high * 16 + digit_of low

-- Byte i of those that a line's digits stand for.
unfoldable pub byte_at : List ℕ → ℕ → ℕ
byte_at line i = byte_of (get_or line (2 * i) 0) (get_or line (2 * i + 1) 0)

-- The first n bytes of a line are digits, two for each of at most `room` bytes.
unfoldable pub in_pairs : List ℕ → ℕ → ℕ → Bool
in_pairs line n room = leb n (length line) && eqb (n % 2) 0 && leb (n / 2) room && all_digits (take n line)

-- The bytes that the first n bytes of a line stand for, or none where they are no such digits.
unfoldable pub hex_bytes : List ℕ → ℕ → ℕ → Option (List ℕ)
hex_bytes line n room = pick (in_pairs line n room) (Some (firsts (byte_at line) (n / 2))) None

-- The answer of `unhex`: how many bytes.
unfoldable pub hex_answer : Option (List ℕ) → Option ℕ
hex_answer (Some bytes) = Some (length bytes)
hex_answer None = None

-- The answer of `bytes_of`: how many bytes, or too many.
unfoldable pub hex_count : Option (List ℕ) → ℕ
hex_count (Some bytes) = length bytes
hex_count None = too_many

-- The buffer lent for the bytes: they stand at its front and its rest is as it was; without bytes all of it is.
unfoldable pub hex_put : List ℕ → Option (List ℕ) → List ℕ
hex_put out (Some bytes) = over out 0 bytes
hex_put out None = out

-- What `unhex` answers and leaves in the lent buffer, by the bytes that there are.
pub record Unhexed (bytes : Option (List ℕ)) (out out' : List ℕ) (r : Option ℕ) : Type 0 where
  pub answer : r ≡ hex_answer bytes
  pub put : out' ≡ hex_put out bytes

-- What `bytes_of` answers and leaves there.
pub record Counted (bytes : Option (List ℕ)) (out out' : List ℕ) (r : ℕ) : Type 0 where
  pub answer : r ≡ hex_count bytes
  pub put : out' ≡ hex_put out bytes
