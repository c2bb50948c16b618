-- Laws of hexadecimal digits: each byte looked at in turn, and what a line gives.
-- Assumes nothing.
use Prim.Native.Nat.{ℕ, zero, suc, ◌+◌, ◌*◌, ◌/◌, ◌%◌, ◌≤◌, ◌<◌}
use mathlib.Core.Bool.{true, false}
use mathlib.Core.List.{List, [], ◌∷◌}
use Rattle.std.specs.Prelude.{Option, Some, None, unwrap_or}
use mathlib.Core.Path.{◌≡◌, refl, sym, ap}
use native.Mathlib.Omega.{arith}
use borrow.Author.Tests.{ltb-true, le-leb, lt-leb, eq-eqb, ne_eqb}
use lib.ListN.{length, get_or, take}
use lib.Seq.{length-take-le, get_or-take}
use lib.Dec.{ltb}
use Rattle.std.specs.List.{list_all}
use Rattle.form.specs.Spans.{over}
use Rattle.form.proofs.Picks.{and_left, and_right}
use Rattle.lines.specs.Buffers.{firsts}
use Rattle.lines.specs.Digits.{digit_of, all_digits, byte_of, byte_at, in_pairs, hex_bytes, hex_answer, hex_count, hex_put, Unhexed}
use Rattle.lines.proofs.Buffers.{firsts-length}

-- ---- whether each of the first n bytes of a line is a digit

pub digits-all : (l : List ℕ) → list_all (λ b. ltb (digit_of b) 16) l ≡ all_digits l
unfolding all_digits
digits-all [] = refl
digits-all (b ∷ l) = rw (digits-all l) refl

module _ (line : List ℕ) (n : ℕ) (fits : n ≤ length line) where
  -- Of digits each is one.
  pub digit-there : (i : ℕ) → i < n → all_digits (take n line) ≡ true → digit_of (get_or line i 0) < 16
  unfolding all_digits
  digit-there i h d =
      let l : length (take n line) ≡ n = length-take-le n line fits in
      rw (get_or-take n line i 0 h) at (each (take n line) i (rw l h) d)
    where
      each : (s : List ℕ) (k : ℕ) → k < length s → all_digits s ≡ true → digit_of (get_or s k 0) < 16
      each [] k h d = absurd (omega arith)
      each (b ∷ s) zero h d = ltb-true (digit_of b) 16 (and_left (ltb (digit_of b) 16) (all_digits s) d)
      each (b ∷ s) (suc k) h d = each s k (omega arith) (and_right (ltb (digit_of b) 16) (all_digits s) d)

-- The two digits of a byte.
pub byte-is : (line : List ℕ) (i : ℕ) → byte_of (get_or line (2 * i) 0) (get_or line (2 * i + 1) 0) ≡ byte_at line i
unfolding byte_at
byte-is line i = refl

-- ---- what the first n bytes of a line give

module _ (line : List ℕ) (n room : ℕ) where
  pub hex-short : length line < n → hex_bytes line n room ≡ None
  unfolding hex_bytes in_pairs
  hex-short h = rw (lt-leb n (length line) h) refl

  module _ (fits : n ≤ length line) where
    pub hex-odd : n % 2 ≡ 1 → hex_bytes line n room ≡ None
    unfolding hex_bytes in_pairs
    hex-odd h = rw (le-leb n (length line) fits, ne_eqb (n % 2) 0 (λ e. omega arith)) refl

    module _ (even : n % 2 ≡ 0) where
      pub hex-full : room < n / 2 → hex_bytes line n room ≡ None
      unfolding hex_bytes in_pairs
      hex-full h = rw (le-leb n (length line) fits, eq-eqb (n % 2) 0 even, lt-leb (n / 2) room h) refl

      pub hex-other : n / 2 ≤ room → all_digits (take n line) ≡ false → hex_bytes line n room ≡ None
      unfolding hex_bytes in_pairs
      hex-other h d = rw (le-leb n (length line) fits, eq-eqb (n % 2) 0 even, le-leb (n / 2) room h, d) refl

      pub hex-some : n / 2 ≤ room → all_digits (take n line) ≡ true → hex_bytes line n room ≡ Some (firsts (byte_at line) (n / 2))
      unfolding hex_bytes in_pairs
      hex-some h d = rw (le-leb n (length line) fits, eq-eqb (n % 2) 0 even, le-leb (n / 2) room h, d) refl

-- ---- the answers

pub unhexed-none : {o : Option (List ℕ)} (out : List ℕ) → o ≡ None → Unhexed o out out None
unfolding hex_answer hex_put
unhexed-none out e = rw e (record { answer = refl; put = refl })

pub unhexed-some : {o : Option (List ℕ)} (f : ℕ → ℕ) (n : ℕ) (out out' : List ℕ) → o ≡ Some (firsts f n) → out' ≡ over out 0 (firsts f n)
    → Unhexed o out out' (Some n)
unfolding hex_answer hex_put
unhexed-some f n out out' e p = rw e (record { answer = ap Some (sym (firsts-length f n)); put = p })

-- Too many where there are no bytes.
pub count-is : (o : Option (List ℕ)) → unwrap_or (hex_answer o) 1000000 ≡ hex_count o
unfolding hex_answer hex_count
count-is (Some bytes) = refl
count-is None = refl
