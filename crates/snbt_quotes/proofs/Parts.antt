-- Laws of the bytes between two places of a text.
-- Assumes nothing.
use Prim.Native.Nat.{ℕ, zero, suc, ◌+◌, ◌-◌, ◌≤◌, ◌<◌}
use mathlib.Core.Path.{◌≡◌, refl, sym, ◌∙◌}
use mathlib.Core.List.{List, [], ◌∷◌}
use native.Mathlib.Omega.{arith}
use native.Mathlib.Numerals.{add-one}
use lib.ListN.{length, get_or, take, drop, length-drop}
use lib.Seq.{drop-cons, take_all, take-nil, drop-drop}
use Rattle.form.specs.Spans.{part}

-- none between a place and itself
pub part_none : (t : List ℕ) (i e : ℕ) → e ≤ i → part t i (e - i) ≡ []
part_none t i e h = let z : e - i ≡ 0 = omega arith in rw z refl

-- the first byte and the rest
pub part-first : (t : List ℕ) (i e : ℕ) → i < e → e ≤ length t → part t i (e - i) ≡ get_or t i 0 ∷ part t (i + 1) (e - (i + 1))
part-first t i e h k =
    let z : e - i ≡ suc (e - (i + 1)) = omega arith in
    rw (z, add-one i, drop-cons t i 0 (omega arith)) refl

-- all bytes from a place on
pub part-rest : (t : List ℕ) (i : ℕ) → part t i (length t - i) ≡ drop i t
part-rest t i = take_all (length t - i) (drop i t) (rw (length-drop i t) (omega arith))

pub part-cons : (t : List ℕ) (i n : ℕ) → i < length t → part t i (suc n) ≡ get_or t i 0 ∷ part t (i + 1) n
part-cons t i n h = rw (add-one i, drop-cons t i 0 h) refl

drop-take : (n m : ℕ) (l : List ℕ) → drop n (take m l) ≡ take (m - n) (drop n l)
drop-take zero m l = let z : m - 0 ≡ m = omega arith in rw z refl
drop-take (suc n) zero l = let z : zero - suc n ≡ 0 = omega arith in rw z refl
drop-take (suc n) (suc m) [] = sym (take-nil (suc m - suc n))
drop-take (suc n) (suc m) (x ∷ l) = let z : suc m - suc n ≡ m - n = omega arith in rw z (drop-take n m l)

-- what n bytes leave of those before an end
pub part-drop : (t : List ℕ) (i n e : ℕ) → drop n (part t i (e - i)) ≡ part t (i + n) (e - (i + n))
part-drop t i n e =
    let z : e - i - n ≡ e - (i + n) = omega arith in
    drop-take n (e - i) (drop i t) ∙ rw (z, drop-drop n i t) refl

-- the bytes before an end, from a place on
pub part-front : (t : List ℕ) (i e : ℕ) → drop i (take e t) ≡ part t i (e - i)
part-front t i e = drop-take i e t
