-- The fields of a line, with a blank after each but the last, and the numbers in them.
-- Assumes nothing.
use Rattle.std.specs.Prelude.{ℕ, ◌+◌, ◌-◌, ◌*◌, min, take, drop, ltb, eqb}
use mathlib.Core.List.{List, [], ◌∷◌, foldl}
use Rattle.form.specs.Answer.{pick}

-- The bytes up to the first blank.
unfoldable pub until_blank : List ℕ → List ℕ
until_blank [] = []
until_blank (b ∷ bs) = pick (eqb b 32) [] (b ∷ until_blank bs)

-- The field from place p on of a line of n bytes, as far as there is room.
unfoldable pub field_at : List ℕ → ℕ → ℕ → ℕ → List ℕ
field_at line n p room = take room (until_blank (drop p (take n line)))

-- More than any field stands for.
abbrev pub too_many : ℕ
too_many = 1000000

-- A number, or too many.
abbrev pub capped : ℕ → ℕ
capped v = min v too_many

-- A number with one decimal digit more; too many with any other byte.
unfoldable pub with_digit : ℕ → ℕ → ℕ
with_digit v b = pick (ltb b 48) too_many (pick (ltb 57 b) too_many (capped (v * 10 + (b - 48))))

-- The number that decimal digits are.
unfoldable pub decimal_of : List ℕ → ℕ
decimal_of = foldl with_digit 0
