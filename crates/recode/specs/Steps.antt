-- What the contracts of this crate cite: the numbers of a span as another form has them, and what was put to an output.
-- Assumes nothing.
use Rattle.std.specs.Prelude.{ℕ, zero, suc, ◌+◌, ◌/◌, ◌≡◌, List, [], ◌++◌, length, take, drop}
use Rattle.form.specs.Answer.{pick}
use Rattle.form.specs.Form.{Way, same_order}
use Rattle.form.specs.Numbers.{number_in, bytes_in}
use Rattle.form.specs.Spans.{over}

-- The number in w bytes, as the other form has it.
abbrev pub number : Way → ℕ → List ℕ → List ℕ
number way w l = bytes_in way.to.order w (number_in way.from.order l)

-- The first n numbers of w bytes each, as the other form has them.
unfoldable pub each_number : Way → ℕ → ℕ → List ℕ → List ℕ
each_number way w zero l = []
each_number way w (suc n) l = number way w (take w l) ++ each_number way w n (drop w l)

-- A span of numbers of w bytes each; where the order is the same its bytes as they are.
unfoldable pub numbers : Way → ℕ → List ℕ → List ℕ
numbers way w l = pick (same_order way.from.order way.to.order) l (each_number way w (length l / w) l)

-- The bytes bs were put at `at`, and r is the place after them.
pub record Puts (bs out : List ℕ) (at : ℕ) (out' : List ℕ) (r : ℕ) : Type 0 where
  pub is : out' ≡ over out at bs
  pub next : r ≡ at + length bs
