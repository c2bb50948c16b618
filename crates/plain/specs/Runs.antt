-- Runs of plain bytes, but for two that are named: each is a value by itself (rule 2), and stands for itself in a token (rule 12).
-- Assumes nothing.
use Rattle.std.specs.Prelude.{◌≡◌, ℕ, zero, suc, ◌+◌, ◌<◌, ◌≤◌, Bool, true, false, not, ◌&&◌, List, length, ◌==◌, nat_le, nat_lt, slice_index}

-- Whether a byte is 1 to 127, and neither p nor q.
abbrev pub plain_byte : ℕ → ℕ → ℕ → Bool
plain_byte p q b = nat_le 1 b && (nat_le b 127 && (not (b == p) && not (b == q)))

-- What the code makes of the test: 0 where it holds, else 1.
unfoldable pub mark : Bool → ℕ
mark true = 0
mark false = 1

-- Whether n bytes from i on are plain.
unfoldable pub plain_in : ℕ → ℕ → List ℕ → ℕ → ℕ → Bool
plain_in p q t i zero = true
plain_in p q t i (suc n) = plain_in p q t i n && plain_byte p q (slice_index t (i + n))

-- Whether a list has fewer than 64 bytes, all of them plain.
abbrev pub short_plain : ℕ → List ℕ → Bool
short_plain p t = nat_lt (length t) 64 && plain_in p p t 0 (length t)

-- The same as facts: a byte is 1 to 127, and neither p nor q.
pub record IsPlain (p q b : ℕ) : Type 0 where
  pub some : 0 < b
  pub low : b < 128
  pub first : b ≡ p → ⊥
  pub second : b ≡ q → ⊥

-- The bytes from i up to j are plain.
pub record Plain (p q : ℕ) (t : List ℕ) (i j : ℕ) : Type 0 where
  pub each : (k : ℕ) → i ≤ k → k < j → IsPlain p q (slice_index t k)
