-- Laws of 16-bit units (rule 2): `unit_of` reads what `unit_bytes` writes, and nothing else.
-- Assumes nothing.
use Prim.Native.Nat.{ℕ, ◌+◌, ◌/◌, ◌%◌, ◌≤◌, ◌<◌}
use mathlib.Core.Path.{◌≡◌, refl, ap}
use mathlib.Core.Logic.{◌⊎◌, inl, inr, ⊎_elim}
use mathlib.Core.List.{List, [], ◌∷◌, ◌++◌}
use mathlib.Core.Bool.{false}
use native.Mathlib.Omega.{arith}
use borrow.Author.Tests.{lt-ltb, le-ltb, lt-leb, eq-eqb, ne_eqb}
use lib.ListN.{length, drop, length-append}
use lib.Dec.{ltb, leb}
use Rattle.form.specs.Strings.{two_bytes, three_bytes, unit_bytes}
use Rattle.form.specs.Decoding.{Sequence, is, stuck, six, two_of, three_of, after_two, after_one, unit_of}
use Rattle.form.proofs.Picks.{pick-lt, pick-le, pick-eq}

-- which form a unit takes
pub ub-one : (u : ℕ) → 0 < u → u < 128 → unit_bytes u ≡ u ∷ []
unfolding unit_bytes
ub-one u h k = simp (ne_eqb u 0 (omega arith), lt-ltb u 128 k)

pub ub-nul : (u : ℕ) → u ≡ 0 → unit_bytes u ≡ two_bytes u
unfolding unit_bytes
ub-nul u h = simp (eq-eqb u 0 h)

pub ub-two : (u : ℕ) → 128 ≤ u → u < 2048 → unit_bytes u ≡ two_bytes u
unfolding unit_bytes
ub-two u h k = simp (ne_eqb u 0 (omega arith), le-ltb u 128 h, lt-ltb u 2048 k)

pub ub-three : (u : ℕ) → 2048 ≤ u → unit_bytes u ≡ three_bytes u
unfolding unit_bytes
ub-three u h = simp (ne_eqb u 0 (omega arith), le-ltb u 128 (omega arith), le-ltb u 2048 h)

-- what a unit that was read says of the bytes
abbrev pub SoundUnit : List ℕ → Sequence → Type 0
SoundUnit l stuck = Unit {0}
SoundUnit l (is u n) = (u < 65536) × (n ≡ length (unit_bytes u)) × (l ≡ unit_bytes u ++ drop n l)

one-sound : (a : ℕ) (l : List ℕ) → (a ≡ 0 → ⊥) → a < 128 → SoundUnit (a ∷ l) (is a 1)
one-sound a l h k = let e = ub-one a (omega arith) k in (omega arith, rw e refl, rw e refl)

two_is : (a b u : ℕ) (l : List ℕ) → 192 ≤ a → a < 224 → 128 ≤ b → b < 192 → u ≡ six (a % 32) b → unit_bytes u ≡ two_bytes u → SoundUnit (a ∷ b ∷ l) (is u 2)
two_is a b u l h₁ h₂ h₃ h₄ e f =
    let p : 192 + u / 64 ≡ a = omega arith in
    let q : 128 + u % 64 ≡ b = omega arith in
    (omega arith, rw f refl, rw (f, p, q) refl)

two-sound : (a b : ℕ) (l : List ℕ) → 192 ≤ a → a < 224 → SoundUnit (a ∷ b ∷ l) (two_of a b)
unfolding two_of
two-sound a b l h k =
    pick-lt (SoundUnit (a ∷ b ∷ l)) b 128 (λ _. tt) (λ h₁.
    pick-le (SoundUnit (a ∷ b ∷ l)) 192 b (λ _. tt) (λ h₂.
    pick-eq (SoundUnit (a ∷ b ∷ l)) (six (a % 32) b) 0 (λ e. two_is a b _ l h k h₁ h₂ refl (ub-nul _ e)) (λ _.
    pick-lt (SoundUnit (a ∷ b ∷ l)) (six (a % 32) b) 128 (λ _. tt) (λ h₃. two_is a b _ l h k h₁ h₂ refl (ub-two _ h₃ (omega arith))))))

three-is : (a b c u : ℕ) (l : List ℕ) → 224 ≤ a → a < 240 → 128 ≤ b → b < 192 → 128 ≤ c → c < 192 → u ≡ six (six (a % 16) b) c → 2048 ≤ u → SoundUnit (a ∷ b ∷ c ∷ l) (is u 3)
three-is a b c u l h₁ h₂ h₃ h₄ h₅ h₆ e f =
    let g = ub-three u f in
    let p : 224 + u / 4096 ≡ a = omega arith in
    let q : 128 + u / 64 % 64 ≡ b = omega arith in
    let r : 128 + u % 64 ≡ c = omega arith in
    (omega arith, rw g refl, rw (g, p, q, r) refl)

three-sound : (a b c : ℕ) (l : List ℕ) → 224 ≤ a → a < 240 → SoundUnit (a ∷ b ∷ c ∷ l) (three_of a b c)
unfolding three_of
three-sound a b c l h k =
    let P = SoundUnit (a ∷ b ∷ c ∷ l) in
    pick-lt P b 128 (λ _. tt) (λ h₁.
    pick-le P 192 b (λ _. tt) (λ h₂.
    pick-lt P c 128 (λ _. tt) (λ h₃.
    pick-le P 192 c (λ _. tt) (λ h₄.
    pick-lt P (six (six (a % 16) b) c) 2048 (λ _. tt) (λ h₅. three-is a b c _ l h k h₁ h₂ h₃ h₄ refl h₅)))))

after_two_lem : (a b : ℕ) (l : List ℕ) → 224 ≤ a → a < 240 → SoundUnit (a ∷ b ∷ l) (after_two a b l)
after_two_lem a b [] h k = tt
after_two_lem a b (c ∷ l) h k = three-sound a b c l h k

after_one_lem : (a : ℕ) (l : List ℕ) → 192 ≤ a → SoundUnit (a ∷ l) (after_one a l)
after_one_lem a [] h = tt
after_one_lem a (b ∷ l) h =
    pick-lt (SoundUnit (a ∷ b ∷ l)) a 224 (λ k. two-sound a b l h k) (λ k.
    pick-le (SoundUnit (a ∷ b ∷ l)) 240 a (λ _. tt) (λ m. after_two_lem a b l k m))

pub unit-sound : (l : List ℕ) → SoundUnit l (unit_of l)
unfolding unit_of
unit-sound [] = tt
unit-sound (a ∷ l) =
    pick-eq (SoundUnit (a ∷ l)) a 0 (λ _. tt) (λ h.
    pick-lt (SoundUnit (a ∷ l)) a 128 (λ k. one-sound a l h k) (λ k.
    pick-lt (SoundUnit (a ∷ l)) a 192 (λ _. tt) (λ m. after_one_lem a l m)))

-- ---- and back
-- a byte behind the first, by the two tests of it
pub behind-low : (x : ℕ) → ltb (128 + x % 64) 128 ≡ false
behind-low x = le-ltb (128 + x % 64) 128 (omega arith)

pub behind-high : (x : ℕ) → leb 192 (128 + x % 64) ≡ false
behind-high x = lt-leb 192 (128 + x % 64) (omega arith)

two_back : (u : ℕ) (l : List ℕ) → u < 2048 → (u ≡ 0) ⊎ (128 ≤ u) → unit_of (two_bytes u ++ l) ≡ is u 2
unfolding unit_of two_of
two_back u l h d =
    let a = 192 + u / 64 in
    let b = 128 + u % 64 in
    let e : six (a % 32) b ≡ u = omega arith in
    simp (ne_eqb a 0 (omega arith), le-ltb a 128 (omega arith), le-ltb a 192 (omega arith), lt-ltb a 224 (omega arith), behind-low u, behind-high u, e)
    (⊎_elim (λ z. simp (eq-eqb u 0 z)) (λ k. simp (ne_eqb u 0 (omega arith), le-ltb u 128 k)) d)

three_back : (u : ℕ) (l : List ℕ) → 2048 ≤ u → u < 65536 → unit_of (three_bytes u ++ l) ≡ is u 3
unfolding unit_of three_of
three_back u l h k =
    let a = 224 + u / 4096 in
    let b = 128 + u / 64 % 64 in
    let c = 128 + u % 64 in
    let e : six (six (a % 16) b) c ≡ u = omega arith in
    simp (ne_eqb a 0 (omega arith), le-ltb a 128 (omega arith), le-ltb a 192 (omega arith), le-ltb a 224 (omega arith), lt-leb 240 a (omega arith), behind-low, behind-high, e, le-ltb u 2048 h)

one-back : (u : ℕ) (l : List ℕ) → (u ≡ 0 → ⊥) → u < 128 → unit_of (u ∷ l) ≡ is u 1
unfolding unit_of
one-back u l h k = simp (ne_eqb u 0 h, lt-ltb u 128 k)

pub unit-back : (u : ℕ) → u < 65536 → (l : List ℕ) → unit_of (unit_bytes u ++ l) ≡ is u (length (unit_bytes u))
unfolding unit_bytes
unit-back u h l =
    let P : List ℕ → Type 0 = λ bs. unit_of (bs ++ l) ≡ is u (length bs) in
    pick-eq P u 0 (λ z. two_back u l (omega arith) (inl z)) (λ z.
    pick-lt P u 128 (λ k. one-back u l z k) (λ k.
    pick-lt P u 2048 (λ m. two_back u l m (inr k)) (λ m. three_back u l m h)))

pub unit-some : (u : ℕ) → 0 < length (unit_bytes u)
unfolding unit_bytes
unit-some u =
    let P : List ℕ → Type 0 = λ bs. 0 < length bs in
    pick-eq P u 0 (λ _. omega arith) (λ _. pick-lt P u 128 (λ _. omega arith) (λ _. pick-lt P u 2048 (λ _. omega arith) (λ _. omega arith)))

pub unit_size : (u : ℕ) → length (unit_bytes u) ≤ 3
unfolding unit_bytes
unit_size u =
    let P : List ℕ → Type 0 = λ bs. length bs ≤ 3 in
    pick-eq P u 0 (λ _. omega arith) (λ _. pick-lt P u 128 (λ _. omega arith) (λ _. pick-lt P u 2048 (λ _. omega arith) (λ _. omega arith)))

-- a unit that was read is within the bytes
pub unit-fits : (l : List ℕ) (u n : ℕ) → unit_of l ≡ is u n → n ≤ length l
unit-fits l u n e = let s : SoundUnit l (is u n) = rw e at (unit-sound l) in omega (arith, s.1, simp length-append at (ap length s.2))
