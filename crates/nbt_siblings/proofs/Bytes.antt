-- What is read of a name's bytes: its mark and its class.
-- Assumes nothing.
use Prim.Native.Nat.{ℕ, ◌+◌, ◌-◌, ◌*◌, ◌/◌, ◌%◌, ◌≤◌, ◌<◌}
use mathlib.Core.List.{List}
use mathlib.Core.Path.{◌≡◌, refl, sym, ap, ◌∙◌}
use native.Mathlib.Omega.{arith}
use native.Mathlib.Nat.{mul-le-mul_right}
use borrow.Author.Tests.{lt-ltb, le-ltb}
use lib.ListN.{length, get_or, drop, get_or-eq_default}
use lib.Seq.{get_or-take, get_or-drop}
use Rattle.form.specs.Spans.{part}
use Rattle.form.proofs.Spans.{part_length}
use Rattle.nbt_siblings.specs.Links.{four_of}
use Rattle.nbt_siblings.specs.Cells.{stir_of, both_of, mark_by, mark_of, class_by, class_of}

-- a product of two numbers below 2^32
pub product-below : (u k : ℕ) → u < 4294967296 → k < 4294967296 → u * k < 18446744073709551616
product-below u k a b = omega (arith, mul-le-mul_right {m = u} {n = 4294967295} k (omega arith))

module _ (doc : List ℕ) (a n : ℕ) (l : a + n ≤ length doc) where
  -- byte k of the span, by its place b in the document
  pub byte-in : (k b : ℕ) → b ≡ a + k → k < n → get_or (part doc a n) k 0 ≡ get_or doc b 0
  byte-in k b e h = get_or-take n (drop a doc) k 0 h ∙ get_or-drop a doc k 0 ∙ ap (λ j. get_or doc j 0) (sym e)

  pub byte-out : (k : ℕ) → n ≤ k → get_or (part doc a n) k 0 ≡ 0
  byte-out k h = get_or-eq_default (part doc a n) 0 {n = k} (omega (arith, part_length doc a n l))

  four-in : (k b : ℕ) → b ≡ a + k → k + 4 ≤ n → four_of (part doc a n) k ≡ four_of doc b
  unfolding four_of
  four-in k b e h =
      rw (
        byte-in k b e (omega arith),
        byte-in (k + 1) (b + 1) (omega arith) (omega arith),
        byte-in (k + 2) (b + 2) (omega arith) (omega arith),
        byte-in (k + 3) (b + 3) (omega arith) (omega arith),
      ) refl

  -- the first four bytes, the last, and the four before them
  front : 4 ≤ n → four_of (part doc a n) 0 ≡ four_of doc a
  front h = four-in 0 a (omega arith) (omega arith)

  last : 4 ≤ n → four_of (part doc a n) (n - 4) ≡ four_of doc (a + n - 4)
  last h = four-in (n - 4) (a + n - 4) (omega arith) (omega arith)

  last-but : 8 ≤ n → four_of (part doc a n) (n - 8) ≡ four_of doc (a + n - 8)
  last-but h = four-in (n - 8) (a + n - 8) (omega arith) (omega arith)

  mark-is : (m : ℕ) → mark_by (part doc a n) n ≡ m → m ≡ mark_of (part doc a n)
  unfolding mark_of
  mark-is m e = sym e ∙ ap (mark_by (part doc a n)) (sym (part_length doc a n l))

  pub mark-few : n < 4 → stir_of n (get_or (part doc a n) 0 0) (get_or (part doc a n) 1 0) (get_or (part doc a n) 2 0) ≡ mark_of (part doc a n)
  unfolding mark_by
  mark-few h = mark-is _ (rw (mark_by, lt-ltb n 8 (omega arith), lt-ltb n 4 h) refl)

  pub mark-some : 4 ≤ n → n < 8 → stir_of n 0 (four_of doc a) (four_of doc (a + n - 4)) ≡ mark_of (part doc a n)
  unfolding mark_by
  mark-some g h = mark-is _ (rw (mark_by, lt-ltb n 8 h, le-ltb n 4 g, front g, last g) refl)

  pub mark-many : 8 ≤ n → n < 16 → stir_of (four_of doc a) (four_of doc (a + 4)) (four_of doc (a + n - 8)) (four_of doc (a + n - 4)) ≡ mark_of (part doc a n)
  unfolding mark_by
  mark-many h g =
      mark-is _
      (rw (mark_by, le-ltb n 8 h, lt-ltb n 16 g, front (omega arith), four-in 4 (a + 4) refl (omega arith), last-but h, last (omega arith)) refl)

  pub mark-most : (m : ℕ) → m ≡ a + n / 2 → 16 ≤ n
      → stir_of (both_of (four_of doc a) (four_of doc (m - 4))) (both_of (four_of doc (a + 4)) (four_of doc m)) (four_of doc (a + n - 8)) (four_of doc (a + n - 4))
      ≡ mark_of (part doc a n)
  unfolding mark_by
  mark-most m s h =
      mark-is _
      (rw (
        mark_by,
        le-ltb n 8 (omega arith),
        le-ltb n 16 h,
        front (omega arith),
        four-in (n / 2 - 4) (m - 4) (omega arith) (omega arith),
        four-in 4 (a + 4) refl (omega arith),
        four-in (n / 2) m s (omega arith),
        last-but (omega arith),
        last (omega arith),
      ) refl)

  class-is : class_by (part doc a n) n ≡ class_of (part doc a n)
  unfolding class_of
  class-is = ap (class_by (part doc a n)) (sym (part_length doc a n l))

  pub class-none : n ≡ 0 → 0 ≡ class_of (part doc a n)
  unfolding class_by
  class-none h =
      let e : class_by (part doc a n) n ≡ 0 = omega (arith, byte-out 0 (omega arith), byte-out (n / 2) (omega arith), byte-out (n - 1) (omega arith)) in
      sym e ∙ class-is

  pub class-some : (x y z : ℕ) → (n ≡ 0 → ⊥) → x ≡ get_or doc a 0 → y ≡ get_or doc (a + n / 2) 0 → z ≡ get_or doc (a + n - 1) 0
      → (n % 8 * 16 + x * 5 + y * 7 + z * 3) % 128 ≡ class_of (part doc a n)
  unfolding class_by
  class-some x y z h p q r =
      rw (
        p ∙ sym (byte-in 0 a (omega arith) (omega arith)),
        q ∙ sym (byte-in (n / 2) (a + n / 2) refl (omega arith)),
        r ∙ sym (byte-in (n - 1) (a + n - 1) (omega arith) (omega arith)),
      ) class-is
