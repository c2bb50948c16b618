-- Byte order, and nothing else: `place_of` is where form's `ordered` finds a digit. What is proved elsewhere speaks of digits in any order
-- and cites these laws and those of form's proofs/Orders, so another order changes this file and that one alone.
-- Assumes nothing.
use Rattle.std.proofs.Common.{◌≡◌, ℕ, suc, ◌+◌, ◌-◌, ◌<◌, ◌≤◌, List, reverse, length, get_or, set, sym, refl, ap, ◌∙◌, arith, length-set, get_or-set_other, get_or-set_same, ext_get_or}
use native.Mathlib.Decide.{ℕ_discrete}
use lib.ListN.{length-reverse}
use Rattle.form.specs.Form.{Order, big, little}
use Rattle.form.specs.Numbers.{ordered}
use Rattle.form.specs.Spans.{part, over}
use Rattle.form.proofs.Orders.{reverse-at}
use Rattle.form.proofs.Places.{part_at, set-over}
use Rattle.form.proofs.Spans.{part_length}
use Rattle.raw.specs.Numbers.{place_of}

-- ---- places

-- The place that the code computes for the highest byte first.
pub place-big : (at w i : ℕ) → at + i ≡ place_of big at w i
unfolding place_of
place-big at w i = refl

-- The place that it computes for the lowest byte first.
pub place-little : (at w i : ℕ) → at + (w - 1 - i) ≡ place_of little at w i
unfolding place_of
place-little at w i = refl

-- The digits of a number stand in its span.
pub place_inside : (o : Order) (at w i n : ℕ) → i < w → at + w ≤ n → place_of o at w i < n
unfolding place_of
place_inside big at w i n h fits = omega arith
place_inside little at w i n h fits = omega arith

-- ---- digits

-- What is set in a reversed list is set in the list itself, counted from the other end.
set-reversed : (l : List ℕ) (i j b : ℕ) → i + suc j ≡ length l → reverse (set (reverse l) i b) ≡ set l j b
set-reversed l i j b h =
    ext_get_or 0 (reverse back) (set l j b) (length-reverse back ∙ long ∙ sym (length-set l j b))
    (λ k less. reverse-at back k (omega (arith, length-reverse back)) ∙ each k (omega (arith, length-reverse back, long)) (ℕ_discrete k j))
  where
    back : List ℕ
    back = set (reverse l) i b

    long : length back ≡ length l
    long = length-set (reverse l) i b ∙ length-reverse l

    each : (k : ℕ) → k < length l → Dec (k ≡ j) → get_or back (length back - 1 - k) 0 ≡ get_or (set l j b) k 0
    each k less (yes e) =
        let z : length back - 1 - k ≡ i = omega (arith, long) in
        rw (z, e, get_or-set_same (reverse l) i b 0 (omega (arith, length-reverse l)), get_or-set_same l j b 0 (omega arith)) refl
    each k less (no e) =
        let m = length back - 1 - k in
        let z : length l - 1 - m ≡ k = omega (arith, long) in
        get_or-set_other (reverse l) i m b 0 (λ same. e (omega (arith, long, same)))
        ∙ reverse-at l m (omega (arith, long))
        ∙ rw z (sym (get_or-set_other l j k b 0 e))

-- A digit is read at its place.
pub digit_at : (o : Order) (s : List ℕ) (at w i : ℕ) → i < w → at + w ≤ length s → get_or (ordered o (part s at w)) i 0 ≡ get_or s (place_of o at w i) 0
unfolding place_of
digit_at big s at w i h fits = part_at s at w i h
digit_at little s at w i h fits =
    let n : length (part s at w) ≡ w = part_length s at w fits in
    reverse-at (part s at w) i (omega arith) ∙ rw n (part_at s at w (w - 1 - i) (omega arith))

-- A digit is written at its place.
pub digit_set : (o : Order) (d : List ℕ) (at w i b : ℕ) → i < w → at + w ≤ length d
    → set d (place_of o at w i) b ≡ over d at (ordered o (set (ordered o (part d at w)) i b))
unfolding place_of
digit_set big d at w i b h fits = set-over d at w i b h fits
digit_set little d at w i b h fits =
    let n : length (part d at w) ≡ w = part_length d at w fits in
    set-over d at w (w - 1 - i) b (omega arith) fits ∙ ap (over d at) (sym (set-reversed (part d at w) i (w - 1 - i) b (omega arith)))
