-- What is put into a lent buffer.
-- Assumes nothing.
use Rattle.std.specs.Prelude.{ℕ, zero, suc, ◌-◌, min, ◌≡◌, List, [], ◌∷◌, ◌++◌, length, replicate}
use Rattle.form.specs.Spans.{over}

-- What f gives for 0, 1 and so on: n of them.
unfoldable pub firsts : (ℕ → ℕ) → ℕ → List ℕ
firsts f zero = []
firsts f (suc n) = firsts f n ++ (f n ∷ [])

-- Bytes stand at the front of a buffer, whose rest is as it was, and n is their number.
pub record Front (bytes before after : List ℕ) (n : ℕ) : Type 0 where
  pub many : n ≡ length bytes
  pub put : after ≡ over before 0 bytes

-- The byte b at each place from `start` up to `end` that the buffer has.
unfoldable pub with_byte : List ℕ → ℕ → ℕ → ℕ → List ℕ
with_byte l start end b = over l start (replicate (min end (length l) - start) b)
