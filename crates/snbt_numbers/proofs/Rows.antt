-- Rows of digits, counted up to the cap: one byte more, the end, two rows as one; and the range of an i64.
-- Assumes nothing.
use mathlib.Core.Path.{◌≡◌, refl, ap, ◌∙◌}
use mathlib.Core.Logic.{◌⊎◌, ⊎_elim}
use mathlib.Core.List.{List, [], ◌∷◌, ◌++◌}
use mathlib.Core.Bool.{Bool, true, false, not, ◌&&◌}
use Prim.Native.Nat.{ℕ, ◌+◌, ◌-◌, ◌*◌, ◌^◌, ◌≤◌, ◌<◌, min}
use native.Mathlib.Omega.{arith}
use borrow.Author.Tests.{le-leb, lt-leb}
use lib.Dec.{leb}
use Rattle.form.specs.Answer.{pick}
use Rattle.form.proofs.Picks.{and-false}
use Rattle.snbt_form.specs.Numbers.{is_digit, empty, digits, worth}
use Rattle.snbt_numbers.specs.Rows.{cap, digits_of, whole_digits}
use Rattle.std.specs.Prelude.{Some, None}

-- zero is not one: what two constructors that are the same come to
pub apart : ◌≡◌ {A = ℕ} 0 1 → ⊥
apart e = omega arith

pub true-false : {A : Type 0} → ◌≡◌ {A = Bool} true false → A
true-false e = let z : ◌≡◌ {A = ℕ} 0 1 = cc in absurd (apart z)

pub is_digit_lem : (b : ℕ) → 48 ≤ b → b ≤ 57 → is_digit b ≡ true
is_digit_lem b h k = simp (le-leb _ _ h, le-leb _ _ k)

pub below-digits : (b : ℕ) → b < 48 → is_digit b ≡ false
below-digits b h = simp (lt-leb _ _ h)

pub above-digits : (b : ℕ) → 57 < b → is_digit b ≡ false
above-digits b h = ap (λ (x : Bool). leb 48 b && x) (lt-leb b 57 h) ∙ and-false (leb 48 b)

-- a byte on either side of the digits
pub outside-digits : (b : ℕ) → (b < 48) ⊎ ((48 ≤ b) × (57 < b)) → is_digit b ≡ false
outside-digits b e = ⊎_elim (λ h. below-digits b h) (λ h. above-digits b h.1) e

-- ---- a row, counted

-- a first number that was capped gives the same
capped-first : (n : ℕ) (l : List ℕ) → min (worth (min n cap) l) cap ≡ min (worth n l) cap
unfolding worth
capped-first n l = go n (min n cap) l (omega arith)
  where
    go : (x y : ℕ) (l : List ℕ) → min y cap ≡ min x cap → min (worth y l) cap ≡ min (worth x l) cap
    go x y [] e = e
    go x y (b ∷ l) e = go (x * 10 + (b - 48)) (y * 10 + (b - 48)) l (omega arith)

-- one digit more
pub digits_more : (n m b : ℕ) (l : List ℕ) → is_digit b ≡ true → m ≡ min (n * 10 + (b - 48)) cap → digits_of m l ≡ digits_of n (b ∷ l)
unfolding digits worth
digits_more n m b l d e = rw (e, capped-first (n * 10 + (b - 48)) l, d) refl

-- a byte that is no digit
pub digits-broken : (n b : ℕ) (l : List ℕ) → is_digit b ≡ false → None ≡ digits_of n (b ∷ l)
unfolding digits worth
digits-broken n b l d = rw d refl

-- the row's end
pub digits-end : (n : ℕ) → n ≤ cap → Some n ≡ digits_of n []
unfolding digits worth
digits-end n h = let e : n ≡ min n cap = omega arith in ap Some e

-- ---- two rows as one

pub digits_append : (a b : List ℕ) → digits (a ++ b) ≡ (digits a && digits b)
unfolding digits
digits_append [] b = refl
digits_append (x ∷ a) b = ap (λ (t : Bool). is_digit x && t) (digits_append a b) ∙ and_assoc (is_digit x) (digits a) (digits b)
  where
    and_assoc : (x y z : Bool) → (x && (y && z)) ≡ ((x && y) && z)
    and_assoc true y z = refl
    and_assoc false y z = refl

pub worth-append : (n : ℕ) (a b : List ℕ) → worth n (a ++ b) ≡ worth (worth n a) b
unfolding worth
worth-append n [] b = refl
worth-append n (x ∷ a) b = worth-append (n * 10 + (x - 48)) a b

-- what an answer says of its row
pub value-says : (n v : ℕ) (l : List ℕ) → Some v ≡ digits_of n l → (digits l ≡ true) × (v ≡ min (worth n l) cap)
value-says n v l e = go (digits l) e
  where
    go : (t : Bool) → Some v ≡ pick t (Some (min (worth n l) cap)) None → (t ≡ true) × (v ≡ min (worth n l) cap)
    go true e = (refl, cc)
    go false e = let z : ◌≡◌ {A = ℕ} 0 1 = cc in absurd (apart z)

pub bad-says : (n : ℕ) (l : List ℕ) → None ≡ digits_of n l → digits l ≡ false
bad-says n l e = go (digits l) e
  where
    go : (t : Bool) → None ≡ pick t (Some (min (worth n l) cap)) None → t ≡ false
    go true e = let z : ◌≡◌ {A = ℕ} 0 1 = cc in absurd (apart z)
    go false e = refl

-- a row that is broken stays so with another behind it
pub first-broken : (a b : List ℕ) → None ≡ digits_of 0 a → None ≡ digits_of 0 (a ++ b)
first-broken a b e = rw (digits_append a b, bad-says 0 a e) refl

-- the second row goes on from the first one's number
pub second-row : (v : ℕ) (a b : List ℕ) → Some v ≡ digits_of 0 a → digits_of v b ≡ digits_of 0 (a ++ b)
second-row v a b e =
    let w = value-says 0 v a e in
    rw (w.1, capped-first (worth 0 a) b, digits_append a b, w.0, worth-append 0 a b) refl

-- ---- the range of 64 bits and a sign

pub past : (s : Bool) (v n : ℕ) → n ≡ min v cap → 2 ^ 63 < n → leb v (pick s (2 ^ 63) (2 ^ 63 - 1)) ≡ false
past true v n e h = lt-leb v (2 ^ 63) (omega arith)
past false v n e h = lt-leb v (2 ^ 63 - 1) (omega arith)

pub uncapped : (v n : ℕ) → n ≡ min v cap → n ≤ 2 ^ 63 → n ≡ v
uncapped v n e h = omega arith

-- a magnitude that was answered is in its range
pub whole_says : (s : Bool) (l : List ℕ) (m : ℕ) → Some m ≡ whole_digits s l → leb m (pick s (2 ^ 63) (2 ^ 63 - 1)) ≡ true
whole_says s l m e = go (not (empty l) && digits l) (leb (worth 0 l) (pick s (2 ^ 63) (2 ^ 63 - 1))) refl e
  where
    go : (x y : Bool) → leb (worth 0 l) (pick s (2 ^ 63) (2 ^ 63 - 1)) ≡ y → Some m ≡ pick x (pick y (Some (worth 0 l)) None) None → leb m (pick s (2 ^ 63) (2 ^ 63 - 1)) ≡ true
    go true true l' e = let same : m ≡ worth 0 l = cc in rw same l'
    go true false l' e = let z : ◌≡◌ {A = ℕ} 0 1 = cc in absurd (apart z)
    go false y l' e = let z : ◌≡◌ {A = ℕ} 0 1 = cc in absurd (apart z)

-- the ways out of a magnitude's test
pub whole-none : (s : Bool) (l : List ℕ) → digits l ≡ false → None ≡ whole_digits s l
whole-none s l d = simp (d, and-false (not (empty l)))

pub whole-far : (s : Bool) (l : List ℕ) → leb (worth 0 l) (pick s (2 ^ 63) (2 ^ 63 - 1)) ≡ false → None ≡ whole_digits s l
whole-far s l f = go (not (empty l) && digits l)
  where
    go : (b : Bool) → None ≡ pick b (pick (leb (worth 0 l) (pick s (2 ^ 63) (2 ^ 63 - 1))) (Some (worth 0 l)) None) None
    go true = rw f refl
    go false = refl

pub whole_is : (s : Bool) (l : List ℕ) (m : ℕ) → empty l ≡ false → digits l ≡ true → leb (worth 0 l) (pick s (2 ^ 63) (2 ^ 63 - 1)) ≡ true → m ≡ worth 0 l → Some m ≡ whole_digits s l
whole_is s l m e d r q = rw (e, d, r, q) refl

-- a row's number within the range of its sign
pub whole-good : (s : Bool) (l : List ℕ) (n : ℕ) → empty l ≡ false → Some n ≡ digits_of 0 l → n ≤ pick s (2 ^ 63) (2 ^ 63 - 1) → Some n ≡ whole_digits s l
whole-good true l n e d h =
    let w = value-says 0 n l d in
    whole_is true l n e w.0 (le-leb (worth 0 l) (2 ^ 63) (omega (arith, w.1, h))) (uncapped (worth 0 l) n w.1 h)
whole-good false l n e d h =
    let w = value-says 0 n l d in
    whole_is false l n e w.0 (le-leb (worth 0 l) (2 ^ 63 - 1) (omega (arith, w.1, h))) (uncapped (worth 0 l) n w.1 (omega (arith, h)))
