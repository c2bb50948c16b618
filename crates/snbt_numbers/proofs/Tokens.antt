-- A token as a part of a text: its last byte, its bytes without the suffix and without the sign.
-- Assumes nothing.
use mathlib.Core.Path.{◌≡◌, refl, sym, ap, ◌∙◌, subst}
use mathlib.Core.Logic.{⊎_elim, ◌⊎◌, inl, inr}
use mathlib.Core.List.{List, [], ◌∷◌}
use mathlib.Core.Bool.{Bool, true, false, not, ◌&&◌}
use Prim.Native.Nat.{ℕ, ◌+◌, ◌-◌, ◌^◌, ◌≤◌, ◌<◌}
use native.Mathlib.Nat.{eq-or-lt_of_le, le_of_eq, le_trans}
use native.Mathlib.Omega.{arith}
use lib.Dec.{leb, eqb}
use lib.IntN.{ℤ}
use lib.ListN.{length, get_or, take}
use lib.Seq.{slice, length-slice, get_or-drop, get_or-take}
use Rattle.form.specs.Answer.{Out, got, no, guard, pick, bad_number, ◌>>=◌, ◌>>◌}
use Rattle.form.proofs.Picks.{lt-or}
use Rattle.snbt_form.specs.Values.{signed}
use Rattle.snbt_form.specs.Numbers.{Number, is_suffix, empty, last_of, but_last, negative, unsigned, digits, worth, whole_of, suffixed, stem, whole_number}
use Rattle.snbt_numbers.specs.Rows.{whole_digits}
use Rattle.std.specs.Prelude.{Option, Some, None}
use Rattle.snbt_numbers.proofs.Rows.{true-false}
use Rattle.snbt_numbers.proofs.Slices.{slice-none, slice_first, slice-take}

-- ---- the last byte

pub last_byte : (f t : ℕ) (s : List ℕ) → f < t → t ≤ length s → last_of (slice f t s) ≡ get_or s (t - 1) 0
last_byte f t s h k =
    let e : f + (t - f - 1) ≡ t - 1 = omega arith in
    rw (length-slice f t s k, get_or-drop f (take t s) (t - f - 1) 0, e) (get_or-take t s (t - 1) 0 (omega arith))

pub but_last_lem : (f t : ℕ) (s : List ℕ) → f < t → t ≤ length s → but_last (slice f t s) ≡ slice f (t - 1) s
but_last_lem f t s h k =
    let e : f + (t - f - 1) ≡ t - 1 = omega arith in
    rw (length-slice f t s k, slice-take f t (t - f - 1) s (omega arith), e) refl

-- the bytes without their suffix end at `to`
pub stem-part : (f t to : ℕ) (s : List ℕ) → f < t → t ≤ length s → to ≡ pick (is_suffix (get_or s (t - 1) 0)) (t - 1) t → stem (slice f t s) ≡ slice f to s
stem-part f t to s h k e = rw (e, last_byte f t s h k, but_last_lem f t s h k) (both (is_suffix (get_or s (t - 1) 0)))
  where
    both : (b : Bool) → pick b (slice f (t - 1) s) (slice f t s) ≡ slice f (pick b (t - 1) t) s
    both true = refl
    both false = refl

pub stem-le : (b : Bool) (f t : ℕ) → f < t → (f ≤ pick b (t - 1) t) × (pick b (t - 1) t ≤ t)
stem-le true f t h = (omega arith, omega arith)
stem-le false f t h = (omega arith, omega arith)

-- ---- the sign

-- a minus is a byte
minus-some : (f t : ℕ) (s : List ℕ) → negative (slice f t s) ≡ true → f < t
minus-some f t s e = ⊎_elim (λ g. g) (λ g. true-false (sym e ∙ ap negative (slice-none f t s g))) (lt-or f t)

-- a front has the sign of the whole
pub sign-front : (f t u : ℕ) (s : List ℕ) → f < t → t ≤ u → u ≤ length s → negative (slice f u s) ≡ negative (slice f t s)
sign-front f t u s h g k = ap negative (slice_first f u s (omega arith) k) ∙ sym (ap negative (slice_first f t s h (omega arith)))

-- where the digits start
pub unsigned-le : (f t from : ℕ) (s : List ℕ) {b : Bool} → f ≤ t → b ≡ negative (slice f t s) → from ≡ pick b (f + 1) f → from ≤ t
unsigned-le f t from s {b} h n e = go b (λ q. minus-some f t s (sym n ∙ q)) e
  where
    go : (b : Bool) → (b ≡ true → f < t) → from ≡ pick b (f + 1) f → from ≤ t
    go true m e = let g : f < t = m refl in omega arith
    go false m e = omega arith

pub unsigned-part : (f t from : ℕ) (s : List ℕ) {b : Bool} → f ≤ t → t ≤ length s → b ≡ negative (slice f t s) → from ≡ pick b (f + 1) f
    → unsigned (slice f t s) ≡ slice from t s
unsigned-part f t from s h k q e = go (eq-or-lt_of_le h)
  where
    signed_by : {l : List ℕ} → slice f t s ≡ l → pick (negative l) (f + 1) f ≡ from
    signed_by c = sym (e ∙ ap (λ (x : Bool). pick x (f + 1) f) (q ∙ ap negative c))

    start : (b : Bool) (x y : ℕ) → pick b (slice x t s) (slice y t s) ≡ slice (pick b x y) t s
    start true x y = refl
    start false x y = refl

    go : (f ≡ t) ⊎ (f < t) → unsigned (slice f t s) ≡ slice from t s
    go (inl z) =
        let n : slice f t s ≡ [] = slice-none f t s (le_of_eq (sym z)) in
        ap unsigned n ∙ sym n ∙ ap (λ (x : ℕ). slice x t s) (signed_by n)
    go (inr g) =
        let c : slice f t s ≡ get_or s f 0 ∷ slice (f + 1) t s = slice_first f t s g k in
        ap unsigned c
        ∙ ap (λ (l : List ℕ). pick (eqb (get_or s f 0) 45) (slice (f + 1) t s) l) (sym c)
        ∙ start (eqb (get_or s f 0) 45) (f + 1) f
        ∙ ap (λ (x : ℕ). slice x t s) (signed_by c)

-- ---- a whole number

-- a part that is not empty
pub some_bytes : (f t : ℕ) (s : List ℕ) → f < t → t ≤ length s → empty (slice f t s) ≡ false
some_bytes f t s h k = ap empty (slice_first f t s h k)

-- a counted magnitude as the definition's whole number
unfoldable whole_out : Bool → Option ℕ → ℕ → Out ℤ
whole_out s (Some m) place = got (signed s m)
whole_out s None place = no bad_number place

whole_same : (s : Bool) (l : List ℕ) (place : ℕ) → whole_of s l place ≡ whole_out s (whole_digits s l) place
unfolding whole_of whole_out
whole_same s l place = go (not (empty l) && digits l) (leb (worth 0 l) (pick s (2 ^ 63) (2 ^ 63 - 1)))
  where
    go : (x y : Bool) → (guard x bad_number place >> (guard y bad_number place >> got (signed s (worth 0 l)))) ≡ whole_out s (pick x (pick y (Some (worth 0 l)) None) None) place
    go true true = refl
    go true false = refl
    go false y = refl

-- the answer by the last byte, the sign and the counted magnitude
abbrev pub answered : ℕ → Bool → Option ℕ → ℕ → Out Number
answered last s (Some m) place = got (suffixed last (signed s m))
answered last s None place = no bad_number place

pub whole-number : (f t to from place : ℕ) (b : Bool) (d : Option ℕ) (s : List ℕ) → f < t → t ≤ length s
    → to ≡ pick (is_suffix (get_or s (t - 1) 0)) (t - 1) t
    → b ≡ negative (slice f to s)
    → from ≡ pick b (f + 1) f
    → d ≡ whole_digits b (slice from to s)
    → answered (get_or s (t - 1) 0) b d place ≡ whole_number (slice f t s) place
unfolding whole_number whole_out
whole-number f t to from place b d s h k et eb ef ed =
    let fits = stem-le (is_suffix (get_or s (t - 1) 0)) f t h in
    let low : f ≤ to = subst (λ (n : ℕ). f ≤ n) (sym et) fits.0 in
    let high : to ≤ length s = le_trans (subst (λ (n : ℕ). n ≤ t) (sym et) fits.1) k in
    let bytes : unsigned (slice f to s) ≡ slice from to s = unsigned-part f to from s low high eb ef in
    rw (stem-part f t to s h k et, bytes, ← eb, whole_same b (slice from to s) place, ← ed, last_byte f t s h k) (out d)
  where
    out : (d : Option ℕ) → answered (get_or s (t - 1) 0) b d place ≡ (whole_out b d place >>= (λ (z : ℤ). got (suffixed (get_or s (t - 1) 0) z)))
    out (Some m) = refl
    out None = refl

-- a token of no byte
pub no_whole : (f t place : ℕ) (s : List ℕ) → t ≤ f → no bad_number place ≡ whole_number (slice f t s) place
unfolding whole_number whole_of
no_whole f t place s h = ap (λ (l : List ℕ). whole_number l place) (sym (slice-none f t s h))
