-- Laws of numbers that are written in another form: how long they are, one more behind others, and what an output is after each.
-- Assumes nothing.
use Prim.Native.Nat.{ℕ, zero, suc, ◌+◌, ◌*◌, ◌/◌, ◌%◌, ◌≤◌, ◌<◌}
use mathlib.Core.Path.{◌≡◌, refl, sym, ap, ◌∙◌}
use mathlib.Core.Bool.{Bool, true, false}
use mathlib.Core.List.{List, [], ◌∷◌, ◌++◌, append-nil, append_assoc}
use native.Mathlib.Nat.{zero-add, suc-add, add_comm, zero-mul, suc-mul, mul-le-mul_right, mul-div_cancel, div-mul-le_self}
use native.Mathlib.Numerals.{add-one}
use native.Mathlib.Omega.{arith}
use lib.Dec.{eqb}
use lib.ListN.{length, take, drop, length-append}
use lib.Seq.{take-nil, take-take, drop-drop}
use Rattle.form.specs.Answer.{pick}
use Rattle.form.specs.Form.{Way, order_in, way_no, same_order}
use Rattle.form.specs.Numbers.{number_in, bytes_in}
use Rattle.form.specs.Spans.{part, over}
use Rattle.form.proofs.Spans.{part_length}
use Rattle.form.proofs.Orders.{bytes-length}
use Rattle.form.proofs.Table.{over_none, over-length, over-over}
use Rattle.recode.specs.Steps.{Puts, number, each_number, numbers}

-- Numbers before one of them leave room for it.
pub room : (i n w : ℕ) → i < n → i * w + w ≤ n * w
room i n w h = rw (← suc-mul i w) (mul-le-mul_right w h)

-- The first of some, and the others.
pub first : (n w : ℕ) → suc n * w ≡ w + n * w
first n w = suc-mul n w ∙ add_comm (n * w) w

-- What is left of a beginning.
pub drop-take : (n m : ℕ) (l : List ℕ) → drop n (take (n + m) l) ≡ take m (drop n l)
drop-take zero m l = rw (zero-add m) refl
drop-take (suc n) m [] = rw (take-nil (suc n + m), take-nil m) refl
drop-take (suc n) m (x ∷ l) = rw (suc-add n m) (drop-take n m l)

-- One number, as a call read it and another wrote it, each by the number of a form.
pub one-put : (way from to at w v : ℕ) (p q : Bool) (l o o₁ : List ℕ) → from ≡ way % 256 → p ≡ eqb from 2 → v ≡ number_in (order_in p) l
    → to ≡ way / 256 → q ≡ eqb to 2 → o₁ ≡ over o at (bytes_in (order_in q) w v) → o₁ ≡ over o at (number (way_no way) w l)
one-put way from to at w v p q l o o₁ a b c d e f = rw (← a, ← b, ← c, ← d, ← e) f

-- ---- numbers one after the other

module _ (way : Way) (w : ℕ) where
  number-length : (l : List ℕ) → length (number way w l) ≡ w
  number-length l = bytes-length way.to.order w (number_in way.from.order l)

  pub each-length : (n : ℕ) (l : List ℕ) → length (each_number way w n l) ≡ n * w
  unfolding each_number
  each-length zero l = sym (zero-mul w)
  each-length (suc n) l = rw (length-append, number-length (take w l), each-length n (drop w l), first n w) refl

  -- one more behind n others
  pub each_more : (n : ℕ) (l : List ℕ) → each_number way w (suc n) l ≡ each_number way w n l ++ number way w (take w (drop (n * w) l))
  unfolding each_number
  each_more zero l = rw (zero-mul w) (append-nil (number way w (take w l)))
  each_more (suc n) l =
      rw (first n w, ← drop-drop (n * w) w l, append_assoc (number way w (take w l)) (each_number way w n (drop w l)) (number way w (take w (drop (n * w) (drop w l)))))
      (ap (λ (k : List ℕ). number way w (take w l) ++ k) (each_more n (drop w l)))

  -- what stands behind them is none of them
  pub each_take : (n : ℕ) (l : List ℕ) → each_number way w n (take (n * w) l) ≡ each_number way w n l
  unfolding each_number
  each_take zero l = refl
  each_take (suc n) l =
      rw (first n w, take-take w (w + n * w) l (omega arith), drop-take w (n * w) l) (ap (λ (k : List ℕ). number way w (take w l) ++ k) (each_take n (drop w l)))

  -- ---- what an output is after n of them

  module _ (o : List ℕ) (at : ℕ) (l : List ℕ) where
    pub put-none : o ≡ over o at (each_number way w 0 l)
    unfolding each_number
    put-none = sym (over_none o at)

    pub put-length : (n : ℕ) (o₁ : List ℕ) → at + n * w ≤ length o → o₁ ≡ over o at (each_number way w n l) → length o₁ ≡ length o
    put-length n o₁ h e = ap length e ∙ over-length o at (each_number way w n l) (rw (each-length n l) h)

    pub put-more : (n : ℕ) (o₁ o₂ : List ℕ) → at + n * w ≤ length o → o₁ ≡ over o at (each_number way w n l)
        → o₂ ≡ over o₁ (at + n * w) (number way w (take w (drop (n * w) l))) → o₂ ≡ over o at (each_number way w (n + 1) l)
    put-more n o₁ o₂ h e f =
        let next = number way w (take w (drop (n * w) l)) in
        let long = each-length n l in
        rw (add-one n, each_more n l) (f ∙ (λ i. over (e i) (at + sym long i) next) ∙ over-over o at (each_number way w n l) (rw long h) next)

    -- all of them, as a span
    pub put_all : (n : ℕ) (o₁ : List ℕ) → o₁ ≡ over o at (each_number way w n l) → Puts (each_number way w n (take (n * w) l)) o at o₁ (at + n * w)
    put_all n o₁ e = rw (each_take n l) (record { is = e; next = ap (λ k. at + k) (sym (each-length n l)) })

-- ---- a span of numbers

module _ (way : Way) (w : ℕ) (t : List ℕ) (start size : ℕ) where
  -- in the same order its bytes as they are
  pub same-order : same_order way.from.order way.to.order ≡ true → numbers way w (part t start size) ≡ part t start size
  unfolding numbers
  same-order e = rw e refl

  -- in the other as many as are whole
  pub other-order : start + size ≤ length t → same_order way.from.order way.to.order ≡ false
      → numbers way w (part t start size) ≡ each_number way w (size / w) (part t start (size / w * w))
  unfolding numbers
  other-order h e =
      let n = size / w in
      rw (e, part_length t start size h, ← each_take way w n (part t start size), take-take (n * w) size (drop start t) (div-mul-le_self size w)) refl

  pub other_length : start + size ≤ length t → same_order way.from.order way.to.order ≡ false → length (numbers way w (part t start size)) ≡ size / w * w
  other_length h e = ap length (other-order h e) ∙ each-length way w (size / w) (part t start (size / w * w))

-- Numbers that are whole take as many bytes as they did.
pub numbers-length : (way : Way) (w n : ℕ) (l : List ℕ) → 0 < w → length l ≡ n * w → length (numbers way w l) ≡ length l
unfolding numbers
numbers-length way w n l some e = go (same_order way.from.order way.to.order)
  where
    go : (b : Bool) → length (pick b l (each_number way w (length l / w) l)) ≡ length l
    go true = refl
    go false = each-length way w (length l / w) l ∙ ap (λ k. k / w * w) e ∙ ap (λ k. k * w) (mul-div_cancel n some) ∙ sym e
