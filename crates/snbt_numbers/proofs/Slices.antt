-- Parts of a text between two places: none, one byte more, a part of a part, the last byte.
-- Assumes nothing.
use mathlib.Core.Path.{◌≡◌, sym, ap, ◌∙◌}
use mathlib.Core.List.{List, [], ◌∷◌, ◌++◌}
use Prim.Native.Nat.{ℕ, zero, suc, ◌+◌, ◌-◌, ◌≤◌, ◌<◌}
use native.Mathlib.Numerals.{add-one}
use native.Mathlib.Omega.{arith}
use lib.ListN.{length, get_or, take, drop, length-take, take-append-drop, drop_of_length-le}
use lib.Seq.{slice, slice-cons, drop-drop, drop-append-le, take-take, take-nil}

-- nothing lies between a place and one that is not behind it
pub slice-none : (f t : ℕ) (l : List ℕ) → t ≤ f → slice f t l ≡ []
slice-none f t l h = let k : length (take t l) ≤ f = omega (arith, length-take t l) in drop_of_length-le (take t l) k

-- the first byte and the rest
pub slice_first : (f t : ℕ) (l : List ℕ) → f < t → t ≤ length l → slice f t l ≡ get_or l f 0 ∷ slice (f + 1) t l
slice_first f t l h k = slice-cons f t l 0 h k ∙ ap (λ (n : ℕ). get_or l f 0 ∷ slice n t l) (sym (add-one f))

-- taking from behind a place
take-drop : (f n : ℕ) (l : List ℕ) → take n (drop f l) ≡ drop f (take (f + n) l)
take-drop zero n l = let e : n ≡ 0 + n = omega arith in ap (λ (k : ℕ). take k l) e
take-drop (suc f) n [] = take-nil n ∙ sym (ap (drop (suc f)) (take-nil (suc f + n)))
take-drop (suc f) n (b ∷ l) = let e : suc (f + n) ≡ suc f + n = omega arith in take-drop f n l ∙ ap (λ (k : ℕ). drop (suc f) (take k (b ∷ l))) e

-- a front of a part
pub slice-take : (f t n : ℕ) (l : List ℕ) → f + n ≤ t → take n (slice f t l) ≡ slice f (f + n) l
slice-take f t n l h = take-drop f n (take t l) ∙ ap (drop f) (take-take (f + n) t l h)

-- what a front leaves of a part
pub slice-drop : (f t n : ℕ) (l : List ℕ) → drop n (slice f t l) ≡ slice (f + n) t l
slice-drop f t n l = drop-drop n f (take t l)

-- a part as so many bytes from a place on
pub slice-from : (f t : ℕ) (l : List ℕ) → f ≤ t → slice f t l ≡ take (t - f) (drop f l)
slice-from f t l h = let e : t ≡ f + (t - f) = omega arith in ap (λ (k : ℕ). slice f k l) e ∙ sym (take-drop f (t - f) l)

-- a part in two
pub slice-split : (f m t : ℕ) (l : List ℕ) → f ≤ m → m ≤ t → t ≤ length l → slice f t l ≡ slice f m l ++ slice m t l
slice-split f m t l h g k =
    ap (drop f) (sym (take-append-drop m (take t l)) ∙ ap (λ (x : List ℕ). x ++ slice m t l) (take-take m t l g))
    ∙ drop-append-le f (take m l) (slice m t l) (omega (arith, length-take m l))

-- one byte alone
pub slice-one : (f : ℕ) (l : List ℕ) → f < length l → slice f (f + 1) l ≡ get_or l f 0 ∷ []
slice-one f l h = slice_first f (f + 1) l (omega arith) (omega arith) ∙ ap (λ (x : List ℕ). get_or l f 0 ∷ x) (slice-none (f + 1) (f + 1) l (omega arith))

-- a part with the byte behind it
pub slice-last : (f t : ℕ) (l : List ℕ) → f ≤ t → t < length l → slice f (t + 1) l ≡ slice f t l ++ (get_or l t 0 ∷ [])
slice-last f t l h k = slice-split f t (t + 1) l h (omega arith) (omega arith) ∙ ap (λ (x : List ℕ). slice f t l ++ x) (slice-one t l k)
