-- One turn of the loop that reads a number and of the loop that writes one, in terms of digits, over the width and for either byte order.
-- Assumes nothing.
use Rattle.std.proofs.Common.{◌≡◌, ℕ, zero, suc, ◌+◌, ◌-◌, ◌*◌, ◌/◌, ◌%◌, ◌^◌, ◌<◌, ◌≤◌, List, [], ◌∷◌, ◌++◌, length, get_or, take, drop, set, sym, refl, ap, ◌∙◌, subst, append-nil, add-one, sub-one, arith, length-append, length-drop, length-set, take_all, drop-cons, get_or-set_same, drop-set-lt}
use lib.Seq.{drop-length, append_snoc}
use Rattle.form.specs.Form.{Order}
use Rattle.form.specs.Numbers.{value, digits, ordered, number_in, bytes_in}
use Rattle.form.specs.Spans.{part, over}
use Rattle.form.proofs.Numbers.{big-endian-none, below_next, pow-le}
use Rattle.form.proofs.Spans.{part_length}
use Rattle.form.proofs.Digits.{digits-length, value-next}
use Rattle.form.proofs.Orders.{ordered-length, ordered-back}
use Rattle.form.proofs.Places.{part-over, over-part, over-again}
use Rattle.raw.specs.Numbers.{place_of}
use Rattle.raw.proofs.Order.{digit_at, digit_set}

-- How many digits there are in a span.
digits_in : (o : Order) (s : List ℕ) (at w : ℕ) → at + w ≤ length s → length (ordered o (part s at w)) ≡ w
digits_in o s at w fits = ordered-length o (part s at w) ∙ part_length s at w fits

-- ---- reading: n is the number that the first i digits are

-- No digit yet.
pub read-start : (ds : List ℕ) → 0 ≡ value (take 0 ds)
read-start ds = sym big-endian-none

-- One digit more.
pub read-turn : (o : Order) (s : List ℕ) (at w i n : ℕ) → i < w → at + w ≤ length s → n ≡ value (take i (ordered o (part s at w)))
    → n * 256 + get_or s (place_of o at w i) 0 ≡ value (take (i + 1) (ordered o (part s at w)))
read-turn o s at w i n h fits e =
    rw (e, add-one i, ← digit_at o s at w i h fits) (sym (value-next (ordered o (part s at w)) i (rw (digits_in o s at w fits) h)))

-- All of them.
pub read-end : (o : Order) (s : List ℕ) (at w i n : ℕ) → w ≤ i → at + w ≤ length s → n ≡ value (take i (ordered o (part s at w))) → n ≡ number_in o (part s at w)
read-end o s at w i n h fits e = e ∙ ap value (take_all i (ordered o (part s at w)) (rw (digits_in o s at w fits) h))

-- There is room for a digit more.
pub read-room : (n i w : ℕ) → n < 256 ^ i → i < w → w ≤ 8 → n * 256 + 255 < 2 ^ 64
read-room n i w h l e = omega (arith, below_next n 255 i h (omega arith), pow-le (i + 1) 8 (omega arith))

-- ---- writing: the slice as it will be when the digits still left are written

-- The first `left` digits are those of `rest`; the others stand already.
unfoldable pub finished : Order → List ℕ → ℕ → ℕ → ℕ → ℕ → List ℕ
finished o d at w left rest = over d at (ordered o (digits left rest ++ drop left (ordered o (part d at w))))

-- At first all digits are left.
pub put-start : (o : Order) (d : List ℕ) (at w v : ℕ) → at + w ≤ length d → finished o d at w w v ≡ over d at (bytes_in o w v)
unfolding finished
put-start o d at w v fits =
    let none : drop w (ordered o (part d at w)) ≡ [] =
    subst (λ k. drop k (ordered o (part d at w)) ≡ []) (digits_in o d at w fits) (drop-length (ordered o (part d at w))) in
    rw (none, append-nil) refl

-- The last digit still left, written: what the slice will be stays the same.
turn : (o : Order) (d : List ℕ) (at w l x : ℕ) → l < w → at + w ≤ length d
    → finished o (set d (place_of o at w l) (x % 256)) at w l (x / 256) ≡ finished o d at w (suc l) x
unfolding finished digits
turn o d at w l x h fits =
    let b = x % 256 in
    let ds = ordered o (part d at w) in
    let n : length ds ≡ w = digits_in o d at w fits in
    let ws = ordered o (set ds l b) in
    let wn : length ws ≡ w = ordered-length o (set ds l b) ∙ length-set ds l b ∙ n in
    let now : ordered o (part (over d at ws) at w) ≡ set ds l b =
    ap (ordered o) (subst (λ k. part (over d at ws) at k ≡ ws) wn (part-over d at ws (omega arith))) ∙ ordered-back o (set ds l b) in
    let tail : drop l (set ds l b) ≡ b ∷ drop (suc l) ds =
    drop-cons (set ds l b) l 0 (rw (length-set, n) h)
    ∙ rw (get_or-set_same ds l b 0 (rw n h), drop-set-lt (suc l) ds l b (omega arith)) refl in
    let vs = digits l (x / 256) ++ (b ∷ drop (suc l) ds) in
    let vn : length (ordered o vs) ≡ length ws =
    rw (ordered-length o vs, wn, length-append, digits-length) (simp length-drop (omega (arith, n))) in
    rw (digit_set o d at w l b h fits, now, tail, append_snoc (digits l (x / 256)) b (drop (suc l) ds)) (over-again d at ws (ordered o vs) (rw wn fits) vn)

-- The same with the code's arithmetic.
pub put-turn : (o : Order) (d : List ℕ) (at w left x : ℕ) → 0 < left → left ≤ w → at + w ≤ length d
    → finished o (set d (place_of o at w (left - 1)) (x % 256)) at w (left - 1) (x / 256) ≡ finished o d at w left x
put-turn o d at w zero x p h fits = absurd (omega arith)
put-turn o d at w (suc l) x p h fits = rw sub-one (turn o d at w l x h fits)

-- At last none is left.
pub put-end : (o : Order) (d : List ℕ) (at w left x : ℕ) → left ≤ 0 → at + w ≤ length d → finished o d at w left x ≡ d
unfolding finished digits
put-end o d at w zero x h fits = ap (over d at) (ordered-back o (part d at w)) ∙ over-part d at w fits
put-end o d at w (suc l) x h fits = absurd (omega arith)
