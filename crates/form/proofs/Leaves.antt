-- Rule 4's lengths and counts of what holds no records, case by case.
-- Assumes nothing.
use Prim.Native.Nat.{ℕ, ◌*◌, ◌≤◌, ◌<◌}
use mathlib.Core.Path.{◌≡◌, refl, sym, subst}
use mathlib.Core.Logic.{◌⊎◌, inl, inr}
use mathlib.Core.Bool.{Bool, true, false, ◌&&◌, ◌||◌}
use native.Mathlib.Omega.{arith}
use lib.Dec.{ltb, eqb}
use borrow.Author.Tests.{eq-eqb, ne_eqb, eqb-true, lt-ltb, le-ltb, ltb-true}
use Rattle.form.specs.Answer.{pick}
use Rattle.form.specs.Table.{width_of, holds, is_array}
use Rattle.form.specs.Tables.{leaf_fits}
use Rattle.form.proofs.Picks.{differ}

-- What holds records is a list or a compound.
pub held-kind : (k : ℕ) → holds k ≡ true → (k ≡ 9) ⊎ (k ≡ 10)
held-kind k h = go (eqb k 9) (eqb k 10) refl refl (rw h refl)
  where
    go : (x y : Bool) → eqb k 9 ≡ x → eqb k 10 ≡ y → (x || y) ≡ true → (k ≡ 9) ⊎ (k ≡ 10)
    go true y p q r = inl (eqb-true k 9 p)
    go false true p q r = inr (eqb-true k 10 q)
    go false false p q r = differ (sym r)

-- An array's kind is one of three.
pub array_kind : (P : ℕ → Type 0) (k : ℕ) → is_array k ≡ true → P 7 → P 11 → P 12 → P k
array_kind P k e a b c = go (eqb k 7) (eqb k 11) (eqb k 12) refl refl refl (rw e refl)
  where
    go : (x y z : Bool) → eqb k 7 ≡ x → eqb k 11 ≡ y → eqb k 12 ≡ z → (x || (y || z)) ≡ true → P k
    go true y z p q r h = subst P (sym (eqb-true k 7 p)) a
    go false true z p q r h = subst P (sym (eqb-true k 11 q)) b
    go false false true p q r h = subst P (sym (eqb-true k 12 r)) c
    go false false false p q r h = differ (sym h)

-- An array's kind is one of rule 4's.
pub array-le : (k : ℕ) → is_array k ≡ true → k ≤ 12
array-le k e = array_kind (λ x. x ≤ 12) k e (omega arith) (omega arith) (omega arith)

module _ (kind len count : ℕ) where
  -- A string has any length, and the count 0.
  pub fits-string : kind ≡ 8 → eqb count 0 ≡ leaf_fits kind len count
  unfolding leaf_fits
  fits-string h = rw h refl

  -- An array is as long as its elements together.
  pub fits-array : is_array kind ≡ true → eqb len (count * width_of kind) ≡ leaf_fits kind len count
  unfolding leaf_fits
  fits-array e = array_kind (λ k. eqb len (count * width_of k) ≡ leaf_fits k len count) kind e refl refl refl

  -- There is no kind 0.
  pub fits-none : kind ≡ 0 → false ≡ leaf_fits kind len count
  unfolding leaf_fits
  fits-none h = rw h refl

  -- Other kinds above 6 hold records, or are none.
  pub fits-other : (kind ≡ 8 → ⊥) → is_array kind ≡ false → 6 < kind → false ≡ leaf_fits kind len count
  unfolding leaf_fits
  fits-other s a h = rw (ne_eqb kind 8 s, le-ltb kind 7 (omega arith), a) refl

  module _ (some : kind ≡ 0 → ⊥) (low : kind ≤ 6) where
    -- Kinds 1 to 6 have a fixed length.
    pub fits-length : (len ≡ width_of kind → ⊥) → false ≡ leaf_fits kind len count
    unfolding leaf_fits
    fits-length h = rw (ne_eqb kind 8 (λ e. omega arith), lt-ltb kind 7 (omega arith), lt-ltb 0 kind (omega arith), ne_eqb len (width_of kind) h) refl

    -- And the count 0.
    pub fits-fixed : len ≡ width_of kind → eqb count 0 ≡ leaf_fits kind len count
    unfolding leaf_fits
    fits-fixed h = rw (ne_eqb kind 8 (λ e. omega arith), lt-ltb kind 7 (omega arith), lt-ltb 0 kind (omega arith), eq-eqb len (width_of kind) h) refl

  -- A list or a compound is no leaf.
  pub fits-held : holds kind ≡ true → leaf_fits kind len count ≡ false
  unfolding leaf_fits
  fits-held h = go (held-kind kind h)
    where
      go : (kind ≡ 9) ⊎ (kind ≡ 10) → leaf_fits kind len count ≡ false
      go (inl p) = rw p refl
      go (inr p) = rw p refl

-- What holds no records is a number, a string or an array.
pub data LeafSort (kind len count : ℕ) : Type 0 where
  number : 0 < kind → kind < 7 → len ≡ width_of kind → count ≡ 0 → LeafSort kind len count
  string : kind ≡ 8 → count ≡ 0 → LeafSort kind len count
  array : is_array kind ≡ true → len ≡ count * width_of kind → LeafSort kind len count

-- What fits is one of these.
pub leaf-sort : (kind len count : ℕ) → leaf_fits kind len count ≡ true → LeafSort kind len count
unfolding leaf_fits
leaf-sort kind len count f = go (eqb kind 8) (ltb kind 7) (is_array kind) refl refl refl (rw f refl)
  where
    low : (a b c : Bool) → ltb 0 kind ≡ a → eqb len (width_of kind) ≡ b → eqb count 0 ≡ c → (a && (b && c)) ≡ true → ltb kind 7 ≡ true → LeafSort kind len count
    low true true true p q r h l = number (ltb-true 0 kind p) (ltb-true kind 7 l) (eqb-true len (width_of kind) q) (eqb-true count 0 r)
    low true true false p q r h l = differ (sym h)
    low true false c p q r h l = differ (sym h)
    low false b c p q r h l = differ (sym h)

    go : (s l a : Bool) → eqb kind 8 ≡ s → ltb kind 7 ≡ l → is_array kind ≡ a
        → pick s (eqb count 0) (pick l (ltb 0 kind && (eqb len (width_of kind) && eqb count 0)) (pick a (eqb len (count * width_of kind)) false)) ≡ true
        → LeafSort kind len count
    go true l a p q r h = string (eqb-true kind 8 p) (eqb-true count 0 h)
    go false true a p q r h = low (ltb 0 kind) (eqb len (width_of kind)) (eqb count 0) refl refl refl h q
    go false false true p q r h = array r (eqb-true len (count * width_of kind) h)
    go false false false p q r h = differ (sym h)

-- Kinds are 1 to 12.
pub leaf-kind : (kind len count : ℕ) → leaf_fits kind len count ≡ true → (0 < kind) × (kind ≤ 12)
leaf-kind kind len count f = go (leaf-sort kind len count f)
  where
    go : LeafSort kind len count → (0 < kind) × (kind ≤ 12)
    go (number lo hi s c) = (lo, omega arith)
    go (string k c) = (omega arith, omega arith)
    go (array a s) = array_kind (λ x. (0 < x) × (x ≤ 12)) kind a (omega arith, omega arith) (omega arith, omega arith) (omega arith, omega arith)
