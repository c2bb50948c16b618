-- An encoding of scalar values with a reader that reads it back, and nothing else.
-- Assumes nothing.
use Prim.Native.Nat.{ℕ, ◌<◌}
use mathlib.Core.Path.{◌≡◌}
use mathlib.Core.List.{List, ◌++◌}
use lib.ListN.{length, drop}
use Rattle.form.specs.Strings.{IsScalar}
use Rattle.form.specs.Decoding.{Sequence, is, stuck}

-- What a scalar value that was read says of the bytes.
abbrev pub SoundBy : (ℕ → List ℕ) → List ℕ → Sequence → Type 0
SoundBy enc l stuck = Unit {0}
SoundBy enc l (is c n) = IsScalar c × (n ≡ length (enc c)) × (l ≡ enc c ++ drop n l)

-- A scalar value takes at least one byte; `one` reads it back whatever follows, and reads nothing else.
pub record Coding : Type 0 where
  pub enc : ℕ → List ℕ
  pub one : List ℕ → Sequence
  pub some : (c : ℕ) → 0 < length (enc c)
  pub sound : (l : List ℕ) → SoundBy enc l (one l)
  pub back : (c : ℕ) → IsScalar c → (l : List ℕ) → one (enc c ++ l) ≡ is c (length (enc c))
