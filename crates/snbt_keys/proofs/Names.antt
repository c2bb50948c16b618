-- Laws of the names at some places, and of a name known among them.
-- Assumes nothing.
use Prim.Native.Nat.{ℕ, zero, suc, ◌+◌, ◌-◌, ◌≤◌, ◌<◌}
use mathlib.Core.List.{List, [], ◌∷◌, ◌++◌}
use mathlib.Core.Bool.{Bool, true, false, ◌||◌}
use mathlib.Core.Path.{◌≡◌, refl, sym, ◌∙◌}
use native.Mathlib.Omega.{arith}
use native.Mathlib.Numerals.{add-one}
use lib.ListN.{length, get_or, take, drop}
use lib.Seq.{take-take}
use Rattle.form.specs.Spans.{same}
use Rattle.snbt_form.specs.Text.{known}
use Rattle.snbt_keys.proofs.Orders.{true-false, not-true, same_self}
use Rattle.form.proofs.Spans.{same_true}
use Rattle.snbt_keys.specs.Keys.{size_at, name_at, names_in}

-- a name as a part of the output, by the length that was read
module _ (o : List ℕ) (p n : ℕ) (e : n ≡ size_at o p) (h : p + (2 + size_at o p) ≤ length o) where
  pub name-part : take n (take (length o - (p + 2)) (drop (p + 2) o)) ≡ name_at o p
  unfolding name_at
  name-part = take-take n (length o - (p + 2)) (drop (p + 2) o) (omega (arith, e)) ∙ rw e refl

-- ---- the names

-- the same names stand at n places of one and of the other
pub names-alike : (o k : List ℕ) (a : ℕ) (o' k' : List ℕ) (b n : ℕ) → ((i : ℕ) → i < n → name_at o (get_or k (a + i) 0) ≡ name_at o' (get_or k' (b + i) 0))
    → names_in o k a n ≡ names_in o' k' b n
unfolding names_in
names-alike o k a o' k' b zero h = refl
names-alike o k a o' k' b (suc n) h =
    let first : name_at o (get_or k a 0) ≡ name_at o' (get_or k' b 0) =
    let e : a + 0 ≡ a = omega arith in
    let f : b + 0 ≡ b = omega arith in
    rw (e, f) at (h 0 (omega arith)) in
    let rest : names_in o k (suc a) n ≡ names_in o' k' (suc b) n =
    names-alike o k (suc a) o' k' (suc b) n
    (λ i l.
    let e : a + suc i ≡ suc a + i = omega arith in
    let f : b + suc i ≡ suc b + i = omega arith in
    rw (e, f) at (h (suc i) (omega arith))) in
    rw (first, rest) refl

-- in two parts
pub names-parts : (o k : List ℕ) (a m n : ℕ) → names_in o k a (m + n) ≡ names_in o k a m ++ names_in o k (a + m) n
unfolding names_in
names-parts o k a zero n =
    let e : 0 + n ≡ n = omega arith in
    let f : a + 0 ≡ a = omega arith in
    rw (e, f) refl
names-parts o k a (suc m) n =
    let e : suc m + n ≡ suc (m + n) = omega arith in
    let f : a + suc m ≡ suc a + m = omega arith in
    rw (e, f, names-parts o k (suc a) m n) refl

pub names-first : (o k : List ℕ) (a n : ℕ) → names_in o k a (1 + n) ≡ name_at o (get_or k a 0) ∷ names_in o k (a + 1) n
unfolding names_in
names-first o k a n = let e : 1 + n ≡ suc n = omega arith in rw (e, add-one a) refl

-- there is none before the first
pub names-none : (o k : List ℕ) (base : ℕ) → names_in o k base (base - base) ≡ []
unfolding names_in
names-none o k base = let e : base - base ≡ 0 = omega arith in rw e refl

-- ---- a name known

pub known-parts : (x : List ℕ) (xs ys : List (List ℕ)) → known x (xs ++ ys) ≡ (known x xs || known x ys)
unfolding known
known-parts x [] ys = refl
known-parts x (n ∷ ns) ys = go (same n x) (known-parts x ns ys)
  where
    go : (t : Bool) → known x (ns ++ ys) ≡ (known x ns || known x ys) → (t || known x (ns ++ ys)) ≡ ((t || known x ns) || known x ys)
    go true e = refl
    go false e = e

pub known-first : (x n : List ℕ) (ns : List (List ℕ)) → known x (n ∷ ns) ≡ (same n x || known x ns)
unfolding known
known-first x n ns = refl

pub or-true : (a : Bool) → (a || true) ≡ true
or-true true = refl
or-true false = refl

-- it stands at one of the places
pub known-here : (o k : List ℕ) (a n : ℕ) (x : List ℕ) (i : ℕ) → i < n → name_at o (get_or k (a + i) 0) ≡ x → known x (names_in o k a n) ≡ true
unfolding names_in known
known-here o k a zero x i l e = absurd (omega arith)
known-here o k a (suc n) x zero l e =
    let f : a + 0 ≡ a = omega arith in
    rw (rw f at e, same_self x) refl
known-here o k a (suc n) x (suc i) l e =
    let f : a + suc i ≡ suc a + i = omega arith in
    rw (known-here o k (suc a) n x i (omega arith) (rw f at e)) (or-true (same (name_at o (get_or k a 0)) x))

-- it stands at none of them
pub known-not : (o k : List ℕ) (a n : ℕ) (x : List ℕ) → ((i : ℕ) → a ≤ i → i < a + n → same (name_at o (get_or k i 0)) x ≡ false)
    → known x (names_in o k a n) ≡ false
unfolding names_in known
known-not o k a zero x h = refl
known-not o k a (suc n) x h =
    rw (h a (omega arith) (omega arith)) (known-not o k (suc a) n x (λ i l m. h i (omega arith) (omega arith)))

-- where it is not known, none of them is it
pub known-each : (o k : List ℕ) (a b : ℕ) (x : List ℕ) → known x (names_in o k a (b - a)) ≡ false → (i : ℕ) → a ≤ i → i < b → same (name_at o (get_or k i 0)) x ≡ false
known-each o k a b x e i h l =
    let f : a + (i - a) ≡ i = omega arith in
    not-true (same (name_at o (get_or k i 0)) x)
    (λ p. true-false (sym (known-here o k a (b - a) x (i - a) (omega arith) (rw f (same_true (name_at o (get_or k i 0)) x p))) ∙ e))

-- in two parts, which meet at an index
pub known-split : (o k : List ℕ) (a m b : ℕ) (x : List ℕ) → a ≤ m → m ≤ b → known x (names_in o k a (b - a)) ≡ (known x (names_in o k a (m - a)) || known x (names_in o k m (b - m)))
known-split o k a m b x h l =
    let e : b - a ≡ (m - a) + (b - m) = omega arith in
    let f : a + (m - a) ≡ m = omega arith in
    rw (e, names-parts o k a (m - a) (b - m), f) (known-parts x (names_in o k a (m - a)) (names_in o k m (b - m)))

or_left : (a b : Bool) → (a || b) ≡ false → a ≡ false
or_left true b e = e
or_left false b e = refl

or_right : (a b : Bool) → (a || b) ≡ false → b ≡ false
or_right true b e = true-false e
or_right false b e = e

-- known in neither part
module _ (o k : List ℕ) (a m b : ℕ) (x : List ℕ) (h : a ≤ m) (l : m ≤ b) (e : known x (names_in o k a (b - a)) ≡ false) where
  pub unknown-left : known x (names_in o k a (m - a)) ≡ false
  unknown-left = or_left (known x (names_in o k a (m - a))) (known x (names_in o k m (b - m))) (sym (known-split o k a m b x h l) ∙ e)

  pub unknown-right : known x (names_in o k m (b - m)) ≡ false
  unknown-right = or_right (known x (names_in o k a (m - a))) (known x (names_in o k m (b - m))) (sym (known-split o k a m b x h l) ∙ e)
