-- Laws of sequences: what rule 2's definitions answer behind the tests that the code makes.
-- Assumes nothing.
use Prim.Native.Nat.{ℕ, ◌%◌, ◌^◌, ◌≤◌, ◌<◌, ◌-◌}
use mathlib.Core.Path.{◌≡◌, refl}
use mathlib.Core.List.{List, [], ◌∷◌}
use native.Mathlib.Omega.{arith}
use borrow.Author.Tests.{lt-ltb, le-ltb, le-leb, lt-leb, eq-eqb, ne_eqb}
use lib.Dec.{ltb, leb, eqb}
use lib.ListN.{drop}
use lib.Bits.{bit_and, and_mask}
use Rattle.form.specs.Answer.{pick}
use Rattle.form.specs.Decoding.{Sequence, is, stuck, six, two_of, three_of, four_of, after_one, unit_of, with_low, scalar_of}
use Rattle.form.proofs.Scalars.{scalar-of}

-- ---- the bytes behind a lead byte

-- behind the two tests on one
pub follows : (b : ℕ) {x : Sequence} → 128 ≤ b → b < 192 → pick (ltb b 128) stuck (pick (leb 192 b) stuck x) ≡ x
follows b h k = simp (le-ltb b 128 h, lt-leb 192 b k)

-- the lead byte's k bits, by a mask
lead : (k a b u : ℕ) → u ≡ six (bit_and a (2 ^ k - 1)) b → u ≡ six (a % 2 ^ k) b
lead k a b u e = rw (← and_mask a k) e

pub two_is : (a b u : ℕ) → 128 ≤ b → b < 192 → u ≡ six (bit_and a 31) b → two_of a b ≡ pick (eqb u 0) (is u 2) (pick (ltb u 128) stuck (is u 2))
unfolding two_of
two_is a b u h k e = rw (follows b h k, ← lead 5 a b u e) refl

pub three-is : (a b c v u : ℕ) → 128 ≤ b → b < 192 → 128 ≤ c → c < 192 → v ≡ six (bit_and a 15) b → u ≡ six v c
    → three_of a b c ≡ pick (ltb u 2048) stuck (is u 3)
unfolding three_of
three-is a b c v u h₁ h₂ h₃ h₄ d e = rw (follows b h₁ h₂, follows c h₃ h₄, ← lead 4 a b v d, ← e) refl

pub four_is : (a b c d w v u : ℕ) → 128 ≤ b → b < 192 → 128 ≤ c → c < 192 → 128 ≤ d → d < 192 → w ≡ six (bit_and a 7) b → v ≡ six w c → u ≡ six v d
    → four_of a b c d ≡ pick (ltb u 65536) stuck (pick (leb 1114112 u) stuck (is u 4))
unfolding four_of
four_is a b c d w v u h₁ h₂ h₃ h₄ h₅ h₆ f g e =
    rw (follows b h₁ h₂, follows c h₃ h₄, follows d h₅ h₆, ← lead 3 a b w f, ← g, ← e) refl

-- ---- a unit, by its lead byte

pub unit-none : unit_of [] ≡ stuck
unfolding unit_of
unit-none = refl

pub unit-zero : (a : ℕ) (l : List ℕ) → a ≡ 0 → unit_of (a ∷ l) ≡ stuck
unfolding unit_of
unit-zero a l h = simp (eq-eqb a 0 h)

pub unit-plain : (a : ℕ) (l : List ℕ) → 0 < a → a < 128 → unit_of (a ∷ l) ≡ is a 1
unfolding unit_of
unit-plain a l h k = simp (ne_eqb a 0 (omega arith), lt-ltb a 128 k)

pub unit-stray : (a : ℕ) (l : List ℕ) → 128 ≤ a → a < 192 → unit_of (a ∷ l) ≡ stuck
unfolding unit_of
unit-stray a l h k = simp (ne_eqb a 0 (omega arith), le-ltb a 128 h, lt-ltb a 192 k)

pub unit-lead : (a : ℕ) (l : List ℕ) → 192 ≤ a → unit_of (a ∷ l) ≡ after_one a l
unfolding unit_of
unit-lead a l h = simp (ne_eqb a 0 (omega arith), le-ltb a 128 (omega arith), le-ltb a 192 h)

pub unit-two : (a b : ℕ) (l : List ℕ) → 192 ≤ a → a < 224 → unit_of (a ∷ b ∷ l) ≡ two_of a b
unit-two a b l h k = rw (unit-lead a (b ∷ l) h) (simp (lt-ltb a 224 k))

-- begins nothing of up to three bytes
pub unit-high : (a : ℕ) (l : List ℕ) → 240 ≤ a → unit_of (a ∷ l) ≡ stuck
unit-high a [] h = unit-lead a [] (omega arith)
unit-high a (b ∷ l) h = rw (unit-lead a (b ∷ l) (omega arith)) (simp (le-ltb a 224 (omega arith), le-leb 240 a h))

pub unit-cut : (a b : ℕ) → 224 ≤ a → a < 240 → unit_of (a ∷ b ∷ []) ≡ stuck
unit-cut a b h k = rw (unit-lead a (b ∷ []) (omega arith)) (simp (le-ltb a 224 h, lt-leb 240 a k))

pub unit-three : (a b c : ℕ) (l : List ℕ) → 224 ≤ a → a < 240 → unit_of (a ∷ b ∷ c ∷ l) ≡ three_of a b c
unit-three a b c l h k = rw (unit-lead a (b ∷ c ∷ l) (omega arith)) (simp (le-ltb a 224 h, lt-leb 240 a k))

-- ---- a scalar value, by the unit that stands first

module _ (l : List ℕ) {u n : ℕ} (e : unit_of l ≡ is u n) where
  pub scalar_below : u < 55296 → is u n ≡ scalar_of l
  scalar_below h = rw (scalar-of l _ e) (simp (lt-ltb u 55296 h))

  pub scalar-above : 57344 ≤ u → is u n ≡ scalar_of l
  scalar-above h = rw (scalar-of l _ e) (simp (le-ltb u 55296 (omega arith), le-leb 57344 u h))

  pub scalar-lone : 56320 ≤ u → u < 57344 → stuck ≡ scalar_of l
  scalar-lone h k = rw (scalar-of l _ e) (simp (le-ltb u 55296 (omega arith), lt-leb 57344 u k, le-leb 56320 u h))

  -- a high half
  pub scalar-half : (v : Sequence) → 55296 ≤ u → u < 56320 → unit_of (drop n l) ≡ v → with_low u n v ≡ scalar_of l
  scalar-half v h k f = rw (scalar-of l _ e) (simp (le-ltb u 55296 h, lt-leb 57344 u (omega arith), lt-leb 56320 u k, f))
