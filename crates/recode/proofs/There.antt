-- Numbers that are written in another form are the same numbers: their bytes are those that the layout there has (02, [2]).
-- Assumes nothing.
use Prim.Native.Nat.{ℕ, zero, suc, ◌+◌, ◌*◌, ◌≤◌, ◌<◌}
use mathlib.Core.Path.{◌≡◌, refl, sym, ap, ◌∙◌}
use mathlib.Core.Bool.{Bool, true, false}
use mathlib.Core.List.{List, [], ◌∷◌, ◌++◌, append-nil}
use native.Mathlib.Nat.{one-mul, mul-div_cancel}
use native.Mathlib.Omega.{arith}
use lib.IntN.{ℤ}
use lib.ListN.{length, get_or, drop}
use lib.Seq.{take-take, drop-drop}
use Rattle.form.specs.Form.{Order, big, little, Form, Way, same_order}
use Rattle.form.specs.Numbers.{number_in, bytes_in, bits_of, signed_of}
use Rattle.form.specs.Spans.{part}
use Rattle.form.specs.Layout.{int_bytes_in, ints_bytes_in}
use Rattle.form.specs.Table.{ints_at}
use Rattle.form.proofs.Digits.{bits-signed}
use Rattle.form.proofs.Orders.{value-bytes}
use Rattle.form.proofs.Values.{ints-back}
use Rattle.recode.specs.Steps.{number, each_number, numbers}
use Rattle.recode.proofs.Numbers.{first, drop-take, same-order, other-order}

-- Two orders that are the same are one.
one-order : (a b : Order) → same_order a b ≡ true → a ≡ b
one-order big big e = refl
one-order little little e = refl
one-order big little e = let z : ◌≡◌ {A = ℕ} 0 1 = cc in absurd (omega arith)
one-order little big e = let z : ◌≡◌ {A = ℕ} 0 1 = cc in absurd (omega arith)

-- Integers are laid out by the order alone.
ints_order : (a b : Form) → a.order ≡ b.order → (w : ℕ) (vs : List ℤ) → ints_bytes_in a w vs ≡ ints_bytes_in b w vs
unfolding ints_bytes_in
ints_order a b e w [] = refl
ints_order a b e w (v ∷ vs) = λ i. bytes_in (e i) w (bits_of w v) ++ ints_order a b e w vs i

module _ (way : Way) (doc : List ℕ) (bytes : (i : ℕ) → get_or doc i 0 < 256) (w : ℕ) (some : 0 < w) where
  -- The integer in w bytes.
  pub int-there : (at : ℕ) → at + w ≤ length doc → int_bytes_in way.to w (signed_of w (number_in way.from.order (part doc at w))) ≡ number way w (part doc at w)
  int-there at h = ap (bytes_in way.to.order w) (bits-signed w (number_in way.from.order (part doc at w)) (value-bytes way.from.order doc bytes at w h).1)

  -- Those that follow each other.
  each-there : (n at : ℕ) → at + n * w ≤ length doc → each_number way w n (part doc at (n * w)) ≡ ints_bytes_in way.to w (ints_at way.from doc w n at)
  unfolding each_number ints_bytes_in ints_at
  each-there zero at h = refl
  each-there (suc n) at h =
      let m = first n w in
      rw (m, take-take w (w + n * w) (drop at doc) (omega arith), drop-take w (n * w) (drop at doc), drop-drop w at doc)
      (λ i. sym (int-there at (omega (arith, m))) i ++ each-there n (at + w) (omega (arith, m)) i)

  -- A span of n of them.
  pub numbers-there : (n at : ℕ) → at + n * w ≤ length doc → numbers way w (part doc at (n * w)) ≡ ints_bytes_in way.to w (ints_at way.from doc w n at)
  numbers-there n at h = go (same_order way.from.order way.to.order) refl
    where
      go : (b : Bool) → same_order way.from.order way.to.order ≡ b → numbers way w (part doc at (n * w)) ≡ ints_bytes_in way.to w (ints_at way.from doc w n at)
      go true e =
          same-order way w doc at (n * w) e
          ∙ sym (ints-back way.from doc bytes w n at h)
          ∙ ints_order way.from way.to (one-order way.from.order way.to.order e) w (ints_at way.from doc w n at)
      go false e =
          other-order way w doc at (n * w) h e
          ∙ ap (λ m. each_number way w m (part doc at (m * w))) (mul-div_cancel n some)
          ∙ each-there n at h

  -- One alone.
  pub number-there : (at : ℕ) → at + w ≤ length doc → numbers way w (part doc at w) ≡ number way w (part doc at w)
  unfolding ints_bytes_in ints_at
  number-there at h =
      let one : 1 * w ≡ w = one-mul w in
      ap (λ k. numbers way w (part doc at k)) (sym one) ∙ numbers-there 1 at (omega (arith, one, h)) ∙ append-nil _ ∙ int-there at h
