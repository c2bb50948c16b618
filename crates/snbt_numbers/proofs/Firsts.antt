-- The first byte that passes a test: what stands before it, what stands behind it, and whether there is one.
-- Assumes nothing.
use mathlib.Core.Path.{◌≡◌, refl, sym, ap, ◌∙◌, subst}
use mathlib.Core.List.{List, [], ◌∷◌, ◌++◌}
use mathlib.Core.Bool.{Bool, true, false, ◌||◌}
use Prim.Native.Nat.{ℕ, suc, ◌+◌, ◌-◌, ◌≤◌, ◌<◌}
use native.Mathlib.Nat.{le_of_suc-le-suc, not-suc-le-zero}
use native.Mathlib.Omega.{arith}
use borrow.Author.Tests.{eq-eqb, ne_eqb}
use lib.Dec.{eqb}
use lib.ListN.{length, take, drop, get_or}
use lib.Seq.{slice, length-slice}
use Rattle.form.specs.Answer.{pick}
use Rattle.form.proofs.Picks.{or_assoc}
use Rattle.snbt_form.specs.Numbers.{has, before, behind, is_point}
use Rattle.snbt_numbers.specs.Rows.{either, FirstAt}
use Rattle.snbt_numbers.proofs.Rows.{true-false}
use Rattle.snbt_numbers.proofs.Slices.{slice-none, slice_first, slice-take, slice-drop, slice-split}

-- ---- lists

or-both : (x y : Bool) → (x || y) ≡ false → (x ≡ false) × (y ≡ false)
or-both true y e = true-false e
or-both false y e = (refl, e)

module _ (t : ℕ → Bool) where
  pub first-here : (b : ℕ) (l : List ℕ) → t b ≡ true → length (before t (b ∷ l)) ≡ 0
  unfolding before
  first-here b l e = ap (λ (x : Bool). length (pick x [] (b ∷ before t l))) e

  pub first-later : (b : ℕ) (l : List ℕ) → t b ≡ false → length (before t (b ∷ l)) ≡ suc (length (before t l))
  unfolding before
  first-later b l e = ap (λ (x : Bool). length (pick x [] (b ∷ before t l))) e

  pub first-none : length (before t []) ≡ 0
  unfolding before
  first-none = refl

  pub take-before : (l : List ℕ) → take (length (before t l)) l ≡ before t l
  unfolding before
  take-before [] = refl
  take-before (b ∷ l) = go (t b) (take-before l)
    where
      go : (x : Bool) → take (length (before t l)) l ≡ before t l → take (length (pick x [] (b ∷ before t l))) (b ∷ l) ≡ pick x [] (b ∷ before t l)
      go true ih = refl
      go false ih = ap (λ (k : List ℕ). b ∷ k) ih

  pub drop-before : (l : List ℕ) → drop (suc (length (before t l))) l ≡ behind t l
  unfolding before behind
  drop-before [] = refl
  drop-before (b ∷ l) = go (t b) (drop-before l)
    where
      go : (x : Bool) → drop (suc (length (before t l))) l ≡ behind t l → drop (suc (length (pick x [] (b ∷ before t l)))) (b ∷ l) ≡ pick x l (behind t l)
      go true ih = refl
      go false ih = ih

  -- bytes none of which passes, alone and before one that does
  pub before-all : (a : List ℕ) → has t a ≡ false → before t a ≡ a
  unfolding before has
  before-all [] n = refl
  before-all (y ∷ a) n = let w = or-both (t y) (has t a) n in ap (λ (x : Bool). pick x [] (y ∷ before t a)) w.0 ∙ ap (λ (l : List ℕ). y ∷ l) (before-all a w.1)

  pub before-found : (a : List ℕ) (x : ℕ) (l : List ℕ) → has t a ≡ false → t x ≡ true → before t (a ++ (x ∷ l)) ≡ a
  unfolding before has
  before-found [] x l n e = ap (λ (b : Bool). pick b [] (x ∷ before t l)) e
  before-found (y ∷ a) x l n e =
      let w = or-both (t y) (has t a) n in
      ap (λ (b : Bool). pick b [] (y ∷ before t (a ++ (x ∷ l)))) w.0 ∙ ap (λ (k : List ℕ). y ∷ k) (before-found a x l w.1 e)

  pub before-le : (l : List ℕ) → length (before t l) ≤ length l
  unfolding before
  before-le [] = omega arith
  before-le (b ∷ l) = go (t b) (before-le l)
    where
      go : (x : Bool) → length (before t l) ≤ length l → length (pick x [] (b ∷ before t l)) ≤ suc (length l)
      go true ih = omega arith
      go false ih = omega arith

  pub has_one : (l : List ℕ) → length (before t l) < length l → has t l ≡ true
  unfolding before has
  has_one [] h = absurd (not-suc-le-zero h)
  has_one (b ∷ l) h = go (t b) (has_one l) h
    where
      go : (x : Bool) → (length (before t l) < length l → has t l ≡ true) → length (pick x [] (b ∷ before t l)) < suc (length l) → (x || has t l) ≡ true
      go true ih h = refl
      go false ih h = ih (le_of_suc-le-suc h)

  pub has-none : (l : List ℕ) → length l ≤ length (before t l) → has t l ≡ false
  unfolding before has
  has-none [] h = refl
  has-none (b ∷ l) h = go (t b) (has-none l) h
    where
      go : (x : Bool) → (length l ≤ length (before t l) → has t l ≡ false) → suc (length l) ≤ length (pick x [] (b ∷ before t l)) → (x || has t l) ≡ false
      go true ih h = absurd (not-suc-le-zero h)
      go false ih h = ih (le_of_suc-le-suc h)

  pub has-append : (a b : List ℕ) → has t (a ++ b) ≡ (has t a || has t b)
  unfolding has
  has-append [] b = refl
  has-append (x ∷ a) b = ap (λ (y : Bool). t x || y) (has-append a b) ∙ sym (or_assoc (t x) (has t a) (has t b))

  -- behind bytes none of which passes
  pub has-behind : (f m e : ℕ) (b : Bool) (s : List ℕ) → f ≤ m → m ≤ e → e ≤ length s → has t (slice f m s) ≡ false → has t (slice m e s) ≡ b → has t (slice f e s) ≡ b
  has-behind f m e b s h g k n q =
      ap (has t) (slice-split f m e s h g k) ∙ has-append (slice f m s) (slice m e s) ∙ ap (λ (x : Bool). x || has t (slice m e s)) n ∙ q

-- ---- parts of a text

module _ {x y : ℕ} {s : List ℕ} {at to r : ℕ} (f : FirstAt x y s at to r) (k : to ≤ length s) where
  pub part-before : slice at r s ≡ before (either x y) (slice at to s)
  part-before =
      let n = length (before (either x y) (slice at to s)) in
      ap (λ (e : ℕ). slice at e s) f.is
      ∙ sym (slice-take at to n s (subst (λ (e : ℕ). e ≤ to) f.is f.high))
      ∙ take-before (either x y) (slice at to s)

  pub part-behind : slice (r + 1) to s ≡ behind (either x y) (slice at to s)
  part-behind =
      let n = length (before (either x y) (slice at to s)) in
      let next : r + 1 ≡ at + suc n = omega (arith, f.is) in
      ap (λ (e : ℕ). slice e to s) next ∙ sym (slice-drop at to (suc n) s) ∙ drop-before (either x y) (slice at to s)

  pub part-has : r < to → has (either x y) (slice at to s) ≡ true
  part-has h = has_one (either x y) (slice at to s) (omega (arith, length-slice at to s k, f.is, f.low))

  pub part-lacks : to ≤ r → has (either x y) (slice at to s) ≡ false
  part-lacks h = has-none (either x y) (slice at to s) (omega (arith, length-slice at to s k, f.is, f.low))

-- the place of the first byte that passes, behind bytes that do not; and of none
pub place_found : (t : ℕ → Bool) (s : List ℕ) (at to r : ℕ) → at ≤ r → r < to → to ≤ length s → has t (slice at r s) ≡ false → t (get_or s r 0) ≡ true
    → r ≡ at + length (before t (slice at to s))
place_found t s at to r l h k n e =
    let parts : slice at to s ≡ slice at r s ++ (get_or s r 0 ∷ slice (r + 1) to s) =
    slice-split at r to s l (omega arith) k ∙ ap (λ (q : List ℕ). slice at r s ++ q) (slice_first r to s h k) in
    let front : before t (slice at to s) ≡ slice at r s = ap (before t) parts ∙ before-found t (slice at r s) (get_or s r 0) (slice (r + 1) to s) n e in
    let many : length (before t (slice at to s)) ≡ r - at = ap length front ∙ length-slice at r s (omega arith) in
    omega (arith, many)

pub place-lacks : (t : ℕ → Bool) (s : List ℕ) (at to : ℕ) → at ≤ to → to ≤ length s → has t (slice at to s) ≡ false → to ≡ at + length (before t (slice at to s))
place-lacks t s at to l k n =
    let many : length (before t (slice at to s)) ≡ to - at = ap length (before-all t (slice at to s) n) ∙ length-slice at to s k in
    omega (arith, many)

-- the same of a byte that is x or y
pub first-is : (x y : ℕ) (s : List ℕ) (at to r : ℕ) → at ≤ r → r < to → to ≤ length s → has (either x y) (slice at r s) ≡ false → either x y (get_or s r 0) ≡ true → FirstAt x y s at to r
first-is x y s at to r l h k n e = record { is = place_found (either x y) s at to r l h k n e; low = l; high = omega arith }

pub first-lacks : (x y : ℕ) (s : List ℕ) (at to : ℕ) → at ≤ to → to ≤ length s → has (either x y) (slice at to s) ≡ false → FirstAt x y s at to to
first-lacks x y s at to l k n = record { is = place-lacks (either x y) s at to l k n; low = l; high = omega arith }

-- ---- the tests

or_same : (b : Bool) → (b || b) ≡ b
or_same true = refl
or_same false = refl

or-true : (b : Bool) → (b || true) ≡ true
or-true true = refl
or-true false = refl

pub the-point : either 46 46 ≡ is_point
the-point = λ i b. or_same (eqb b 46) i

pub is_x : (x y b : ℕ) → b ≡ x → either x y b ≡ true
is_x x y b e = ap (λ (t : Bool). t || eqb b y) (eq-eqb b x e)

pub is_y : (x y b : ℕ) → b ≡ y → either x y b ≡ true
is_y x y b e = ap (λ (t : Bool). eqb b x || t) (eq-eqb b y e) ∙ or-true (eqb b x)

pub neither : (x y b : ℕ) → (b ≡ x → ⊥) → (b ≡ y → ⊥) → either x y b ≡ false
neither x y b n m = ap (λ (t : Bool). t || eqb b y) (ne_eqb b x n) ∙ ne_eqb b y m

-- ---- the loop that looks for it

-- how many bytes stand before the first from i on
abbrev pub ahead : ℕ → ℕ → List ℕ → ℕ → ℕ → ℕ
ahead x y s i to = length (before (either x y) (slice i to s))

module _ (x y : ℕ) (s : List ℕ) (at i to : ℕ) (low : at ≤ i) (k : to ≤ length s) (e : i + ahead x y s i to ≡ at + ahead x y s at to) where
  -- the byte at i is the first
  pub first-hit : i < to → either x y (get_or s i 0) ≡ true → FirstAt x y s at to i
  first-hit h t =
      let z : ahead x y s i to ≡ 0 =
      ap (λ (l : List ℕ). length (before (either x y) l)) (slice_first i to s h k) ∙ first-here (either x y) (get_or s i 0) (slice (i + 1) to s) t in
      record { is = omega (arith, z, e); low = low; high = omega arith }

  -- or the next ones are looked at
  pub first-next : i < to → either x y (get_or s i 0) ≡ false → i + 1 + ahead x y s (i + 1) to ≡ at + ahead x y s at to
  first-next h t =
      let z : ahead x y s i to ≡ suc (ahead x y s (i + 1) to) =
      ap (λ (l : List ℕ). length (before (either x y) l)) (slice_first i to s h k) ∙ first-later (either x y) (get_or s i 0) (slice (i + 1) to s) t in
      omega (arith, z, e)

  -- or there is none left
  pub first-end : i ≡ to → FirstAt x y s at to to
  first-end h =
      let z : ahead x y s i to ≡ 0 =
      ap (λ (l : List ℕ). length (before (either x y) l)) (slice-none i to s (omega (arith, h))) ∙ first-none (either x y) in
      record { is = omega (arith, z, e, h); low = omega (arith, low, h); high = omega arith }
