-- Laws of bytes written at a place: what stores leave, and how many bytes a scalar value takes.
-- Assumes nothing.
use Prim.Native.Nat.{ℕ, ◌+◌, ◌≤◌, ◌<◌}
use mathlib.Core.Path.{◌≡◌, refl, ◌∙◌}
use mathlib.Core.List.{List, [], ◌∷◌, ◌++◌}
use native.Mathlib.Numerals.{add-one, add-two, add-three}
use native.Mathlib.Omega.{arith}
use borrow.Author.Tests.{lt-ltb, le-ltb}
use lib.ListN.{length, set, length-append}
use Rattle.form.specs.Spans.{over}
use Rattle.form.specs.Strings.{two_bytes, three_bytes, unit_bytes, high_half, low_half, scalar_bytes, utf8_bytes}
use Rattle.form.proofs.Table.{sets_over, over-over}
use Rattle.form.proofs.Units.{ub-three}
use Rattle.form.proofs.Scalars.{sb-high}
use Rattle.std.specs.Prelude.{Option, Some, None}
use Rattle.chars.specs.Answers.{Wrote}

-- ---- stores

pub one-put : (o : List ℕ) (at a : ℕ) → at + 1 ≤ length o → set o at a ≡ over o at (a ∷ [])
one-put o at a h = sets_over (a ∷ []) o at h

pub two-put : (o : List ℕ) (at x y a b : ℕ) → at + 2 ≤ length o → x ≡ a → y ≡ b → set (set o at x) (at + 1) y ≡ over o at (a ∷ b ∷ [])
two-put o at x y a b h p q = rw (p, q, add-one) (sets_over (a ∷ b ∷ []) o at h)

pub three-put : (o : List ℕ) (at x y z a b c : ℕ) → at + 3 ≤ length o → x ≡ a → y ≡ b → z ≡ c
    → set (set (set o at x) (at + 1) y) (at + 2) z ≡ over o at (a ∷ b ∷ c ∷ [])
three-put o at x y z a b c h p q r = rw (p, q, r, add-one, add-two) (sets_over (a ∷ b ∷ c ∷ []) o at h)

pub four-put : (o : List ℕ) (at x y z w a b c d : ℕ) → at + 4 ≤ length o → x ≡ a → y ≡ b → z ≡ c → w ≡ d
    → set (set (set (set o at x) (at + 1) y) (at + 2) z) (at + 3) w ≡ over o at (a ∷ b ∷ c ∷ d ∷ [])
four-put o at x y z w a b c d h p q r s = rw (p, q, r, s, add-one, add-two, add-three) (sets_over (a ∷ b ∷ c ∷ d ∷ []) o at h)

-- where there is room they were written
pub wrote-room : (o o' bs : List ℕ) (at : ℕ) (r : Option ℕ) → at + length bs ≤ length o → Wrote o at bs r o' → o' ≡ over o at bs
wrote-room o o' bs at (Some n) h w = w.2
wrote-room o o' bs at None h w = absurd (omega (arith, w.0))

-- ---- which form a scalar value takes in UTF-8

pub u8-one : (c : ℕ) → c < 128 → utf8_bytes c ≡ c ∷ []
unfolding utf8_bytes
u8-one c h = simp (lt-ltb c 128 h)

pub u8-two : (c : ℕ) → 128 ≤ c → c < 2048 → utf8_bytes c ≡ two_bytes c
unfolding utf8_bytes
u8-two c h k = simp (le-ltb c 128 h, lt-ltb c 2048 k)

pub u8-three : (c : ℕ) → 2048 ≤ c → c < 65536 → utf8_bytes c ≡ three_bytes c
unfolding utf8_bytes
u8-three c h k = simp (le-ltb c 128 (omega arith), le-ltb c 2048 h, lt-ltb c 65536 k)

-- ---- lengths

pub half_length : (u : ℕ) → 2048 ≤ u → length (unit_bytes u) ≡ 3
half_length u h = rw (ub-three u h) refl

pub pair-length : (c : ℕ) → 65536 ≤ c → length (scalar_bytes c) ≡ 6
pair-length c h = rw (sb-high c h, length-append) (omega (arith, half_length (high_half c) (omega arith), half_length (low_half c) (omega arith)))

-- the two halves, one behind the other
pub pair_put : (o o₁ o₂ : List ℕ) (c at : ℕ) → 65536 ≤ c → at + 6 ≤ length o → o₁ ≡ over o at (unit_bytes (high_half c)) → o₂ ≡ over o₁ (at + 3) (unit_bytes (low_half c))
    → o₂ ≡ over o at (scalar_bytes c)
pair_put o o₁ o₂ c at h l p q =
    let hi = unit_bytes (high_half c) in
    let lo = unit_bytes (low_half c) in
    let e = half_length (high_half c) (omega arith) in
    let f : over (over o at hi) (at + length hi) lo ≡ over o at (hi ++ lo) = over-over o at hi (omega (arith, e)) lo in
    q ∙ rw (p, sb-high c h, ← e) f
