-- What stands at a place of a list, as the head of its rest.
-- Assumes nothing.
use Prim.Native.Nat.{ℕ, suc, ◌+◌, ◌<◌}
use mathlib.Core.Path.{◌≡◌}
use mathlib.Core.List.{List, ◌∷◌}
use native.Mathlib.Numerals.{add-one, add-two, add-three, add-four}
use native.Mathlib.Omega.{arith}
use lib.ListN.{length, get_or, drop}
use lib.Seq.{drop-cons}

module _ (s : List ℕ) (i : ℕ) where
  pub drop1 : i < length s → drop i s ≡ get_or s i 0 ∷ drop (i + 1) s
  drop1 h = rw (add-one, drop-cons s i 0)

  pub drop2 : i + 1 < length s → drop i s ≡ get_or s i 0 ∷ get_or s (i + 1) 0 ∷ drop (i + 2) s
  drop2 h = rw (add-one, add-two, drop-cons s i 0 (omega arith), drop-cons s (suc i) 0 (omega arith))

  pub drop3 : i + 2 < length s → drop i s ≡ get_or s i 0 ∷ get_or s (i + 1) 0 ∷ get_or s (i + 2) 0 ∷ drop (i + 3) s
  drop3 h = rw (add-one, add-two, add-three, drop-cons s i 0 (omega arith), drop-cons s (suc i) 0 (omega arith), drop-cons s (suc (suc i)) 0 (omega arith))

  pub drop4 : i + 3 < length s → drop i s ≡ get_or s i 0 ∷ get_or s (i + 1) 0 ∷ get_or s (i + 2) 0 ∷ get_or s (i + 3) 0 ∷ drop (i + 4) s
  drop4 h =
      rw (add-one, add-two, add-three, add-four, drop-cons s i 0 (omega arith), drop-cons s (suc i) 0 (omega arith))
      (rw (drop-cons s (suc (suc i)) 0 (omega arith), drop-cons s (suc (suc (suc i))) 0 (omega arith)))
