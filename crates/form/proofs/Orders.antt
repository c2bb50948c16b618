-- Laws of byte order, for either: what is proved of digits holds of bytes.
-- Assumes nothing.
use Prim.Native.Nat.{ℕ, suc, ◌+◌, ◌-◌, ◌≤◌, ◌<◌}
use mathlib.Core.List.{List, [], ◌∷◌, ◌++◌, reverse, reverse-reverse, reverse-cons}
use mathlib.Core.Path.{◌≡◌, refl, sym, ap, ◌∙◌, subst}
use native.Mathlib.Omega.{arith}
use native.Mathlib.Decide.{dec_lt, ℕ_discrete}
use lib.ListN.{length, get_or, length-reverse, get_or-append, get_or-eq_default}
use lib.Seq.{get_or-append-add}
use Rattle.form.specs.Form.{Order, big, little}
use Rattle.form.specs.Numbers.{value, digits, ordered, number_in, bytes_in, values_in}
use Rattle.form.specs.Spans.{part}
use Rattle.form.proofs.Digits.{digits-length, digits_value, value-below, value-digits-below}
use Rattle.form.proofs.Spans.{part_length}
use Rattle.form.proofs.Places.{part-below}

-- A number has as many digits as bytes.
pub ordered-length : (o : Order) (bs : List ℕ) → length (ordered o bs) ≡ length bs
ordered-length big bs = refl
ordered-length little bs = length-reverse bs

-- From bytes to digits and back.
pub ordered-back : (o : Order) (bs : List ℕ) → ordered o (ordered o bs) ≡ bs
ordered-back big bs = refl
ordered-back little bs = reverse-reverse bs

-- An element of a reversed list.
pub reverse-at : (l : List ℕ) (i : ℕ) → i < length l → get_or (reverse l) i 0 ≡ get_or l (length l - 1 - i) 0
reverse-at [] i h = absurd (omega arith)
reverse-at (x ∷ l) i h = step (reverse-at l i) (ℕ_discrete i (length l))
  where
    n : length (reverse l) ≡ length l
    n = length-reverse l

    step : (i < length l → get_or (reverse l) i 0 ≡ get_or l (length l - 1 - i) 0) → Dec (i ≡ length l) → get_or (reverse (x ∷ l)) i 0 ≡ get_or (x ∷ l) (suc (length l) - 1 - i) 0
    step ih (yes e) =
        let z : i ≡ length (reverse l) + 0 = omega (arith, n, e) in
        let y : suc (length l) - 1 - i ≡ 0 = omega arith in
        ap (λ (m : List ℕ). get_or m i 0) (reverse-cons x l)
        ∙ ap (λ (j : ℕ). get_or (reverse l ++ (x ∷ [])) j 0) z
        ∙ get_or-append-add (reverse l) (x ∷ []) 0 0
        ∙ ap (λ (j : ℕ). get_or (x ∷ l) j 0) (sym y)
    step ih (no e) =
        let k : i < length (reverse l) = omega (arith, n) in
        let y : suc (length l) - 1 - i ≡ suc (length l - 1 - i) = omega arith in
        ap (λ (m : List ℕ). get_or m i 0) (reverse-cons x l)
        ∙ get_or-append (reverse l) (x ∷ []) 0 i k
        ∙ ih (omega arith)
        ∙ ap (λ (j : ℕ). get_or (x ∷ l) j 0) (sym y)

-- Bytes below 256 are digits below 256.
pub ordered-below : (o : Order) (bs : List ℕ) → ((k : ℕ) → get_or bs k 0 < 256) → (k : ℕ) → get_or (ordered o bs) k 0 < 256
ordered-below big bs b k = b k
ordered-below little bs b k = go (dec_lt k (length bs))
  where
    go : Dec (k < length bs) → get_or (reverse bs) k 0 < 256
    go (yes h) = rw (reverse-at bs k h) (b (length bs - 1 - k))
    go (no h) = rw (get_or-eq_default (reverse bs) 0 {n = k} (omega (arith, length-reverse bs))) (omega arith)

-- How many bytes there are.
pub bytes-length : (o : Order) (w v : ℕ) → length (bytes_in o w v) ≡ w
bytes-length o w v = ordered-length o (digits w v) ∙ digits-length w v

-- A number that its bytes can hold is the number in them.
pub number-bytes : (o : Order) (w v : ℕ) → v < values_in w → number_in o (bytes_in o w v) ≡ v
number-bytes o w v h = ap value (ordered-back o (digits w v)) ∙ value-digits-below w v h

-- The bytes of a span are those of the number in them, which they hold.
pub value-bytes : (o : Order) (l : List ℕ) → ((k : ℕ) → get_or l k 0 < 256) → (at w : ℕ) → at + w ≤ length l
    → (bytes_in o w (number_in o (part l at w)) ≡ part l at w) × (number_in o (part l at w) < values_in w)
value-bytes o l bytes at w h =
    let ds = ordered o (part l at w) in
    let long : length ds ≡ w = ordered-length o (part l at w) ∙ part_length l at w h in
    let b = ordered-below o (part l at w) (part-below l bytes at w) in (
      ap (ordered o) (subst (λ k. digits k (value ds) ≡ ds) long (digits_value ds b)) ∙ ordered-back o (part l at w),
      subst (λ k. value ds < values_in k) long (value-below ds b),
    )
