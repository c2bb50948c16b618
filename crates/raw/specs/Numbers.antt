-- Rule 1 in a slice: where the digits of a number stand, and what the reader of a number answers.
-- Assumes nothing.
use Rattle.std.specs.Prelude.{◌≡◌, ℕ, ◌+◌, ◌-◌, ◌<◌, List}
use Rattle.form.specs.Form.{Order, big, little}
use Rattle.form.specs.Numbers.{number_in, values_in}

-- Where digit i, counted from the highest, of a number of w bytes at `at` stands: rule 1's order has the highest first, the other the lowest.
-- With form's `ordered` this is all that is said of byte order.
unfoldable pub place_of : Order → ℕ → ℕ → ℕ → ℕ
place_of big at w i = at + i
place_of little at w i = at + (w - 1 - i)

-- A number is the one in these bytes, and no greater than w bytes can hold.
pub record Number (o : Order) (bytes : List ℕ) (w n : ℕ) : Type 0 where
  pub is : n ≡ number_in o bytes
  pub below : n < values_in w
