-- Laws of what is put in the middle of a list: read there again, put there twice, and put back as it was.
-- Assumes nothing.
use Prim.Native.Nat.{ℕ, zero, suc, ◌+◌, ◌≤◌, ◌<◌}
use mathlib.Core.List.{List, [], ◌∷◌, ◌++◌, append_assoc}
use mathlib.Core.Path.{◌≡◌, refl, sym, ap, ◌∙◌}
use native.Mathlib.Omega.{arith}
use lib.ListN.{length, get_or, set, take, drop, length-set, take-append-drop}
use lib.Seq.{length-take-le, take_at, drop_at, drop-drop, take-add, take-append_seam, take-set-le, drop-set-lt, take-set-lt, drop-set-add, get_or-take, get_or-drop}
use Rattle.form.specs.Spans.{part, over}
use Rattle.form.proofs.Spans.{part_length}

-- An element of a span.
pub part_at : (l : List ℕ) (at w i : ℕ) → i < w → get_or (part l at w) i 0 ≡ get_or l (at + i) 0
part_at l at w i h = get_or-take w (drop at l) i 0 h ∙ get_or-drop at l i 0

-- What holds of every element of a list, bytes being below 256, holds of those of a span.
pub part-below : (l : List ℕ) → ((k : ℕ) → get_or l k 0 < 256) → (at w k : ℕ) → get_or (part l at w) k 0 < 256
part-below l b at w k = take_below w (drop at l) (λ j. rw (get_or-drop at l j 0) (b (at + j))) k
  where
    take_below : (w : ℕ) (m : List ℕ) → ((j : ℕ) → get_or m j 0 < 256) → (k : ℕ) → get_or (take w m) k 0 < 256
    take_below zero m h k = omega arith
    take_below (suc w) [] h k = omega arith
    take_below (suc w) (x ∷ m) h zero = h 0
    take_below (suc w) (x ∷ m) h (suc k) = take_below w m (λ j. h (suc j)) k

-- What was put there stands there.
pub part-over : (l : List ℕ) (at : ℕ) (ws : List ℕ) → at ≤ length l → part (over l at ws) at (length ws) ≡ ws
unfolding over
part-over l at ws h =
    ap (take (length ws)) (drop_at (take at l) (ws ++ drop (at + length ws) l) at (length-take-le at l h))
    ∙ take-append_seam ws (drop (at + length ws) l)

-- What stands in a span of one list, put into another that is the same before and behind it, makes the first.
pub over-alike : (l m : List ℕ) (at w : ℕ) → at + w ≤ length m → take at l ≡ take at m → drop (at + w) l ≡ drop (at + w) m
    → over l at (part m at w) ≡ m
unfolding over
over-alike l m at w h front back =
    rw (
      part_length m at w h,
      front,
      back,
      ← append_assoc (take at m) (part m at w) (drop (at + w) m),
      ← take-add at w m,
      take-append-drop (at + w) m,
    )
    refl

-- What stands in a span, put there again, changes nothing.
pub over-part : (l : List ℕ) (at w : ℕ) → at + w ≤ length l → over l at (part l at w) ≡ l
over-part l at w h = over-alike l l at w h refl refl

-- Of two lists of one length that are put at one place the later stays.
pub over-again : (l : List ℕ) (at : ℕ) (ws vs : List ℕ) → at + length ws ≤ length l → length vs ≡ length ws
    → over (over l at ws) at vs ≡ over l at vs
unfolding over
over-again l at ws vs h e =
    let t : length (take at l) ≡ at = length-take-le at l (omega arith) in
    rw (
      take_at (take at l) (ws ++ drop (at + length ws) l) at t,
      e,
      past t,
    )
    refl
  where
    past : length (take at l) ≡ at → drop (at + length ws) (take at l ++ (ws ++ drop (at + length ws) l)) ≡ drop (at + length ws) l
    past t =
        sym (drop-drop (length ws) at (take at l ++ (ws ++ drop (at + length ws) l)))
        ∙ ap (drop (length ws)) (drop_at (take at l) (ws ++ drop (at + length ws) l) at t)
        ∙ drop_at ws (drop (at + length ws) l) (length ws) refl

-- One element of a span changed is the list changed there.
pub set-over : (l : List ℕ) (at w i x : ℕ) → i < w → at + w ≤ length l → set l (at + i) x ≡ over l at (set (part l at w) i x)
set-over l at w i x h fits =
    let m = set l (at + i) x in
    let inside : part m at w ≡ set (part l at w) i x =
    ap (take w) (drop-set-add at l i x) ∙ take-set-lt w (drop at l) i x h in
    sym (over-alike l m at w (simp length-set fits) (sym (take-set-le at l (at + i) x (omega arith))) (sym (drop-set-lt (at + w) l (at + i) x (omega arith))))
    ∙ ap (over l at) inside
