-- Runs of bytes that are passed at once: what the code's blocks and loops promise of them (rule 2).
-- Assumes nothing.
use Rattle.std.specs.Prelude.{ℕ, ◌+◌, ◌-◌, ◌≤◌, ◌<◌, ◌≡◌, List, length, drop, get_or}
use Rattle.form.specs.Decoding.{Sequence, is, stuck, unit_of, unpaired}

-- Reading one value after the other leads from i to j.
pub data Walked (one : List ℕ → Sequence) (s : List ℕ) : ℕ → ℕ → Type 0 where
  none : {i : ℕ} → Walked one s i i
  more : {i j c n : ℕ} → one (drop i s) ≡ is c n → Walked one s (i + n) j → Walked one s i j

-- The values that both codings read alike: units of rule 2 other than 0 and the halves of a pair.
unfoldable pub common_of : List ℕ → Sequence
common_of l = unpaired (unit_of l)

-- From a place on, r is as far as values that both codings read alike were passed.
pub record Passed (s : List ℕ) (at r : ℕ) : Type 0 where
  pub on : at ≤ r
  pub within : r ≤ length s
  pub walked : Walked common_of s at r

-- From a place on values were read up to `stop`, or up to one that can't be read.
pub record Stepped (one : List ℕ → Sequence) (s : List ℕ) (at stop r : ℕ) : Type 0 where
  pub on : at ≤ r
  pub within : r ≤ length s
  pub walked : Walked one s at r
  pub halted : r < stop → one (drop r s) ≡ stuck

-- The byte b may stand behind p, and p behind q, where both codings read alike: it follows a lead byte exactly where one is due, it is
-- no zero byte, begins no overlong form and no four bytes, and behind E0 and ED it makes no overlong form and no half.
pub record Fits (q p b : ℕ) : Type 0 where
  pub some : 0 < b
  pub low : b < 240
  pub lead : 192 ≤ b → 194 ≤ b
  pub free : p < 192 → q < 224 → 128 ≤ b → 192 ≤ b
  pub second : 192 ≤ p → (128 ≤ b) × (b < 192)
  pub third : 224 ≤ q → (128 ≤ b) × (b < 192)
  pub long : p ≡ 224 → 160 ≤ b
  pub basic : p ≡ 237 → b < 160

-- Each byte from i up to j fits behind the two before it.
pub record Fitting (s : List ℕ) (i j : ℕ) : Type 0 where
  pub each : (k : ℕ) → i ≤ k → k < j → Fits (get_or s (k - 2) 0) (get_or s (k - 1) 0) (get_or s k 0)

-- No sequence that began before i goes on at i.
pub record Edge (s : List ℕ) (i : ℕ) : Type 0 where
  pub behind : 2 ≤ i
  pub last : get_or s (i - 1) 0 < 192
  pub earlier : get_or s (i - 2) 0 < 224
