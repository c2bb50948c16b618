-- Reading and writing are inverse, over the width and for either byte order: what was written is read, and what was read is written as it was.
-- Assumes nothing.
use Rattle.std.proofs.Common.{◌≡◌, ℕ, ◌+◌, ◌%◌, ◌<◌, ◌≤◌, List, length, get_or, ℤ, ap, ◌∙◌, subst, mod-eq_of_lt, arith}
use Rattle.form.specs.Form.{Order}
use Rattle.form.specs.Numbers.{value, digits, ordered, number_in, bytes_in, values_in, signed_of, bits_of, FitsIn}
use Rattle.form.specs.Spans.{part, over}
use Rattle.form.proofs.Digits.{value-digits, bits_below, signed-bits, bits-signed}
use Rattle.form.proofs.Orders.{ordered-back, bytes-length, value-bytes}
use Rattle.form.proofs.Places.{part-over, over-part}

-- ---- what was written is read

module _ (o : Order) (d : List ℕ) (at w : ℕ) (fits : at + w ≤ length d) where
  -- The digits that were written stand there.
  written : (v : ℕ) → ordered o (part (over d at (bytes_in o w v)) at w) ≡ digits w v
  written v =
      ap (ordered o) (subst (λ k. part (over d at (bytes_in o w v)) at k ≡ bytes_in o w v) (bytes-length o w v) (part-over d at (bytes_in o w v) (omega arith)))
      ∙ ordered-back o (digits w v)

  -- The lowest bytes of any number that was written are read as what is left of it modulo the values of the width.
  pub read-lowest : (v : ℕ) → number_in o (part (over d at (bytes_in o w v)) at w) ≡ v % values_in w
  read-lowest v = ap value (written v) ∙ value-digits w v

  -- A number of w bytes that was written is read.
  pub read-written : (v : ℕ) → v < values_in w → number_in o (part (over d at (bytes_in o w v)) at w) ≡ v
  read-written v h = read-lowest v ∙ mod-eq_of_lt h

  -- So is an integer.
  pub signed-read-written : (v : ℤ) → FitsIn w v → signed_of w (number_in o (part (over d at (bytes_in o w (bits_of w v))) at w)) ≡ v
  signed-read-written v h = ap (signed_of w) (read-written (bits_of w v) (bits_below w v h)) ∙ signed-bits w v h

-- ---- what was read is written as it was

module _ (o : Order) (s : List ℕ) (bytes : (k : ℕ) → get_or s k 0 < 256) (at w : ℕ) (fits : at + w ≤ length s) where
  -- A number that was read, written there, changes nothing.
  pub written_read : over s at (bytes_in o w (number_in o (part s at w))) ≡ s
  written_read = ap (over s at) (value-bytes o s bytes at w fits).0 ∙ over-part s at w fits

  -- Nor does an integer.
  pub signed-written-read : over s at (bytes_in o w (bits_of w (signed_of w (number_in o (part s at w))))) ≡ s
  signed-written-read = ap (λ b. over s at (bytes_in o w b)) (bits-signed w (number_in o (part s at w)) (value-bytes o s bytes at w fits).1) ∙ written_read
