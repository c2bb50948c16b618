-- Laws of scalar values in UTF-8: `utf8_of` reads what `utf8_bytes` writes, and nothing else.
-- Assumes nothing.
use Prim.Native.Nat.{ℕ, ◌+◌, ◌-◌, ◌*◌, ◌/◌, ◌%◌, ◌≤◌, ◌<◌}
use mathlib.Core.Path.{◌≡◌, refl, sym, ap, ◌∙◌}
use mathlib.Core.Logic.{◌⊎◌, inl, inr, ⊎_elim}
use mathlib.Core.List.{List, [], ◌∷◌, ◌++◌}
use native.Mathlib.Omega.{arith}
use borrow.Author.Tests.{lt-ltb, le-ltb, le-leb, lt-leb, ne_eqb}
use lib.ListN.{length, drop, get_or, length-drop}
use Rattle.form.specs.Strings.{unit_bytes, four_bytes, utf8_bytes, IsScalar}
use Rattle.form.specs.Decoding.{Sequence, is, stuck, six, unit_of, four_of, three_more, unpaired, utf8_of}
use Rattle.form.proofs.Picks.{pick-lt, pick-le, pick-eq, lt-or}
use Rattle.form.proofs.Drops.{drop1}
use Rattle.form.proofs.Coding.{SoundBy, Coding}
use Rattle.form.proofs.Units.{SoundUnit, ub-one, ub-two, ub-three, unit-sound, behind-low, behind-high, unit-back}

-- which form a scalar value takes
low_is : (c : ℕ) → 0 < c → c < 65536 → utf8_bytes c ≡ unit_bytes c
unfolding utf8_bytes
low_is c h k =
    let P : List ℕ → Type 0 = λ bs. bs ≡ unit_bytes c in
    pick-lt P c 128 (λ a. sym (ub-one c h a)) (λ a.
    pick-lt P c 2048 (λ b. sym (ub-two c a b)) (λ b.
    pick-lt P c 65536 (λ d. sym (ub-three c b)) (λ d. absurd (omega arith))))

pub high_is : (c : ℕ) → 65536 ≤ c → utf8_bytes c ≡ four_bytes c
unfolding utf8_bytes
high_is c h = simp (le-ltb c 128 (omega arith), le-ltb c 2048 (omega arith), le-ltb c 65536 h)

pub size : (c : ℕ) → length (utf8_bytes c) ≤ 4
unfolding utf8_bytes
size c =
    let P : List ℕ → Type 0 = λ bs. length bs ≤ 4 in
    pick-lt P c 128 (λ _. omega arith) (λ _. pick-lt P c 2048 (λ _. omega arith) (λ _. pick-lt P c 65536 (λ _. omega arith) (λ _. omega arith)))

pub some : (c : ℕ) → 0 < length (utf8_bytes c)
unfolding utf8_bytes
some c =
    let P : List ℕ → Type 0 = λ bs. 0 < length bs in
    pick-lt P c 128 (λ _. omega arith) (λ _. pick-lt P c 2048 (λ _. omega arith) (λ _. pick-lt P c 65536 (λ _. omega arith) (λ _. omega arith)))

abbrev SoundR : List ℕ → Sequence → Type 0
SoundR l r = SoundBy utf8_bytes l r

-- ---- sound
four_is : (a b c d u : ℕ) (l : List ℕ) → 240 ≤ a → a < 248 → 128 ≤ b → b < 192 → 128 ≤ c → c < 192 → 128 ≤ d → d < 192
    → u ≡ six (six (six (a % 8) b) c) d → 65536 ≤ u → u < 1114112 → SoundR (a ∷ b ∷ c ∷ d ∷ l) (is u 4)
four_is a b c d u l h₁ h₂ h₃ h₄ h₅ h₆ h₇ h₈ e f k =
    let g = high_is u f in
    let p : 240 + u / 262144 ≡ a = omega arith in
    let q : 128 + u / 4096 % 64 ≡ b = omega arith in
    let r : 128 + u / 64 % 64 ≡ c = omega arith in
    let s : 128 + u % 64 ≡ d = omega arith in
    ((inr (omega arith), k), rw g refl, rw (g, p, q, r, s) refl)

four-sound : (a b c d : ℕ) (l : List ℕ) → 240 ≤ a → a < 248 → SoundR (a ∷ b ∷ c ∷ d ∷ l) (four_of a b c d)
unfolding four_of
four-sound a b c d l h k =
    let P = SoundR (a ∷ b ∷ c ∷ d ∷ l) in
    let u = six (six (six (a % 8) b) c) d in
    pick-lt P b 128 (λ _. tt) (λ h₁.
    pick-le P 192 b (λ _. tt) (λ h₂.
    pick-lt P c 128 (λ _. tt) (λ h₃.
    pick-le P 192 c (λ _. tt) (λ h₄.
    pick-lt P d 128 (λ _. tt) (λ h₅.
    pick-le P 192 d (λ _. tt) (λ h₆.
    pick-lt P u 65536 (λ _. tt) (λ h₇.
    pick-le P 1114112 u (λ _. tt) (λ h₈. four_is a b c d _ l h k h₁ h₂ h₃ h₄ h₅ h₆ refl h₇ h₈))))))))

more-sound : (a : ℕ) (l : List ℕ) → 240 ≤ a → a < 248 → SoundR (a ∷ l) (three_more a l)
more-sound a [] h k = tt
more-sound a (b ∷ []) h k = tt
more-sound a (b ∷ c ∷ []) h k = tt
more-sound a (b ∷ c ∷ d ∷ l) h k = four-sound a b c d l h k

low-sound : (l : List ℕ) (u n : ℕ) → SoundUnit l (is u n) → 0 < u → (u < 55296) ⊎ (57344 ≤ u) → SoundR l (is u n)
low-sound l u n w h d = let e = low_is u h w.0 in ((d, omega arith), rw e w.1, rw e w.2)

from-unit : (l : List ℕ) (w : Sequence) → SoundUnit l w → SoundR l (unpaired w)
from-unit l stuck s = tt
from-unit l (is u n) s =
    pick-eq (SoundR l) u 0 (λ _. tt) (λ h.
    pick-lt (SoundR l) u 55296 (λ k. low-sound l u n s (omega arith) (inl k)) (λ _.
    pick-lt (SoundR l) u 57344 (λ _. tt) (λ k. low-sound l u n s (omega arith) (inr k))))

nul-is : utf8_bytes 0 ≡ 0 ∷ []
unfolding utf8_bytes
nul-is = refl

nul-sound : (a : ℕ) (l : List ℕ) → a ≡ 0 → SoundR (a ∷ l) (is 0 1)
nul-sound a l e = ((inl (omega arith), omega arith), rw nul-is refl, rw (nul-is, e) refl)

pub sound : (l : List ℕ) → SoundR l (utf8_of l)
unfolding utf8_of
sound [] = tt
sound (a ∷ l) =
    pick-eq (SoundR (a ∷ l)) a 0 (λ e. nul-sound a l e) (λ _.
    pick-le (SoundR (a ∷ l)) 240 a
    (λ h. pick-le (SoundR (a ∷ l)) 248 a (λ _. tt) (λ k. more-sound a l h k))
    (λ _. from-unit (a ∷ l) (unit_of (a ∷ l)) (unit-sound (a ∷ l))))

-- ---- and back
-- four digits put together again, a step at a time: `omega` stops at all of it at once
digit : (v : ℕ) → v / 64 * 64 + v % 64 ≡ v
digit v = omega arith

top_of : (u : ℕ) → u / 262144 ≡ u / 4096 / 64
top_of u = omega arith

mid-of : (u : ℕ) → u / 4096 ≡ u / 64 / 64
mid-of u = omega arith

lead : (q : ℕ) → q < 8 → (240 + q) % 8 ≡ q
lead q h = omega arith

tail : (x : ℕ) → (128 + x % 64) % 64 ≡ x % 64
tail x = omega arith

digits : (u : ℕ) → ((u / 262144 * 64 + u / 4096 % 64) * 64 + u / 64 % 64) * 64 + u % 64 ≡ u
digits u = rw (top_of u, digit (u / 4096), mid-of u, digit (u / 64), digit u)

four-back : (u : ℕ) (l : List ℕ) → 65536 ≤ u → u < 1114112 → utf8_of (four_bytes u ++ l) ≡ is u 4
unfolding utf8_of four_of
four-back u l h k =
    let a = 240 + u / 262144 in
    let b = 128 + u / 4096 % 64 in
    let c = 128 + u / 64 % 64 in
    let d = 128 + u % 64 in
    let e : six (six (six (a % 8) b) c) d ≡ u = rw (lead (u / 262144) (omega arith), tail (u / 4096), tail (u / 64), tail u) (digits u) in
    simp (ne_eqb a 0 (omega arith), le-leb 240 a (omega arith), lt-leb 248 a (omega arith), behind-low, behind-high, e, le-ltb u 65536 h, lt-leb 1114112 u k)

-- a unit's bytes begin with no zero byte, and with none above 239
head-of : (P : List ℕ → Type 0) (u : ℕ) → u < 65536 → ((a : ℕ) (t : List ℕ) → 0 < a → a < 240 → P (a ∷ t)) → 0 < u → P (unit_bytes u)
head-of P u h f k =
    ⊎_elim (λ x. rw (ub-one u k x) (f u [] k (omega arith)))
    (λ x. ⊎_elim (λ y. rw (ub-two u x y) (f (192 + u / 64) _ (omega arith) (omega arith)))
    (λ y. rw (ub-three u y) (f (224 + u / 4096) _ (omega arith) (omega arith))) (lt-or u 2048))
    (lt-or u 128)

by-unit : (a : ℕ) (t : List ℕ) → 0 < a → a < 240 → utf8_of (a ∷ t) ≡ unpaired (unit_of (a ∷ t))
unfolding utf8_of
by-unit a t h k = simp (ne_eqb a 0 (omega arith), lt-leb 240 a k)

low-back : (c : ℕ) (l : List ℕ) → 0 < c → c < 65536 → (c < 55296) ⊎ (57344 ≤ c) → utf8_of (unit_bytes c ++ l) ≡ is c (length (unit_bytes c))
low-back c l h k d =
    head-of (λ bs. utf8_of (bs ++ l) ≡ unpaired (unit_of (bs ++ l))) c k (λ a t p q. by-unit a (t ++ l) p q) h
    ∙ rw (unit-back c k l) (⊎_elim (λ x. simp (ne_eqb c 0 (omega arith), lt-ltb c 55296 x)) (λ x. simp (ne_eqb c 0 (omega arith), le-ltb c 55296 (omega arith), le-ltb c 57344 x)) d)

nul-back : (c : ℕ) (l : List ℕ) → c ≡ 0 → utf8_of (utf8_bytes c ++ l) ≡ is c (length (utf8_bytes c))
unfolding utf8_of
nul-back c l e = rw (e, nul-is) refl

pub back : (c : ℕ) → IsScalar c → (l : List ℕ) → utf8_of (utf8_bytes c ++ l) ≡ is c (length (utf8_bytes c))
back c s l = ⊎_elim
    (λ k. ⊎_elim (λ z. nul-back c l (omega arith)) (λ z. rw (low_is c z k) (low-back c l z k s.0)) (lt-or c 1))
    (λ k. let z : c < 1114112 = s.1 in rw (high_is c k) (four-back c l k z))
    (lt-or c 65536)

abbrev pub utf8 : Coding
utf8 = record { enc = utf8_bytes; one = utf8_of; some = some; sound = sound; back = back }

-- ---- by what stands at a place

short : (a : ℕ) (l : List ℕ) → length l < 3 → three_more a l ≡ stuck
short a [] h = refl
short a (b ∷ []) h = refl
short a (b ∷ c ∷ []) h = refl
short a (b ∷ c ∷ d ∷ l) h = absurd (omega arith)

module _ (s : List ℕ) (i : ℕ) (h : i < length s) where
  pub utf8-of : (v : Sequence) → (get_or s i 0 ≡ 0 → ⊥) → get_or s i 0 < 240 → unit_of (drop i s) ≡ v → utf8_of (drop i s) ≡ unpaired v
  utf8-of v z k e =
      let f = drop1 s i h in
      ap utf8_of f ∙ by-unit (get_or s i 0) (drop (i + 1) s) (omega arith) k ∙ ap unpaired (sym (ap unit_of f) ∙ e)

  pub utf8-cut : 240 ≤ get_or s i 0 → get_or s i 0 < 248 → length s - i < 4 → stuck ≡ utf8_of (drop i s)
  unfolding utf8_of
  utf8-cut p q k =
      let a = get_or s i 0 in
      let few = short a (drop (i + 1) s) (rw (length-drop (i + 1) s) (omega arith)) in
      rw (drop1 s i h) (simp (ne_eqb a 0 (omega arith), le-leb 240 a p, lt-leb 248 a q, few))
