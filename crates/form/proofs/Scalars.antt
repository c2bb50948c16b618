-- Laws of scalar values in modified UTF-8 (rule 2): `scalar_of` reads what `scalar_bytes` writes, and nothing else.
-- Assumes nothing.
use Prim.Native.Nat.{ℕ, ◌+◌, ◌-◌, ◌*◌, ◌/◌, ◌%◌, ◌≤◌, ◌<◌}
use mathlib.Core.Path.{◌≡◌, refl, ◌∙◌}
use mathlib.Core.Logic.{◌⊎◌, inl, inr, ⊎_elim}
use mathlib.Core.List.{List, ◌++◌, append_assoc}
use native.Mathlib.Omega.{arith}
use borrow.Author.Tests.{lt-ltb, le-ltb, le-leb, lt-leb}
use lib.ListN.{length, drop, length-append}
use lib.Seq.{drop-drop, drop-append_seam}
use Rattle.form.specs.Strings.{unit_bytes, scalar_bytes, IsScalar}
use Rattle.form.specs.Decoding.{Sequence, is, stuck, unit_of, pair_of, with_low, paired, scalar_of}
use Rattle.form.proofs.Picks.{pick-lt, pick-le, lt-or}
use Rattle.form.proofs.Coding.{SoundBy, Coding}
use Rattle.form.proofs.Units.{SoundUnit, unit-sound, unit-back, unit-some, unit_size}

-- ---- scalar values
pub sb-low : (c : ℕ) → c < 65536 → scalar_bytes c ≡ unit_bytes c
unfolding scalar_bytes
sb-low c h = simp (lt-ltb c 65536 h)

pub sb-high : (c : ℕ) → 65536 ≤ c → scalar_bytes c ≡ unit_bytes (55296 + (c - 65536) / 1024) ++ unit_bytes (56320 + (c - 65536) % 1024)
unfolding scalar_bytes
sb-high c h = simp (le-ltb c 65536 h)

pub scalar-some : (c : ℕ) → 0 < length (scalar_bytes c)
unfolding scalar_bytes
scalar-some c =
    let P : List ℕ → Type 0 = λ bs. 0 < length bs in
    pick-lt P c 65536 (λ _. unit-some c) (λ _. simp length-append (omega (arith, unit-some (55296 + (c - 65536) / 1024))))

pub scalar_size : (c : ℕ) → length (scalar_bytes c) ≤ 6
unfolding scalar_bytes
scalar_size c =
    let P : List ℕ → Type 0 = λ bs. length bs ≤ 6 in
    let hi = 55296 + (c - 65536) / 1024 in
    let lo = 56320 + (c - 65536) % 1024 in
    pick-lt P c 65536 (λ _. omega (arith, unit_size c)) (λ _. omega (arith, length-append (unit_bytes hi) (unit_bytes lo), unit_size hi, unit_size lo))

abbrev SoundR : List ℕ → Sequence → Type 0
SoundR l r = SoundBy scalar_bytes l r

low-sound : (l : List ℕ) (u n : ℕ) → SoundUnit l (is u n) → (u < 55296) ⊎ (57344 ≤ u) → SoundR l (is u n)
low-sound l u n w d = let e = sb-low u w.0 in ((d, omega arith), rw e w.1, rw e w.2)

pair-sound : (l : List ℕ) (u n v m : ℕ) → SoundUnit l (is u n) → SoundUnit (drop n l) (is v m) → 55296 ≤ u → u < 56320 → 56320 ≤ v → v < 57344 → SoundR l (is (pair_of u v) (n + m))
unfolding pair_of
pair-sound l u n v m w x h₁ h₂ h₃ h₄ =
    let c = 65536 + (u % 1024 * 1024 + v % 1024) in
    let p : 55296 + (c - 65536) / 1024 ≡ u = omega arith in
    let q : 56320 + (c - 65536) % 1024 ≡ v = omega arith in
    let e : scalar_bytes c ≡ unit_bytes u ++ unit_bytes v = sb-high c (omega arith) ∙ (rw (p, q) refl) in (
      (inr (omega arith), omega arith),
      rw (e, length-append, ← w.1, ← x.1) refl,
      rw (e, append_assoc, ← drop-drop m n l, ← x.2) w.2,
    )

low_of : (l : List ℕ) (u n : ℕ) → SoundUnit l (is u n) → 55296 ≤ u → u < 56320 → (x : Sequence) → SoundUnit (drop n l) x → SoundR l (with_low u n x)
low_of l u n w h₁ h₂ stuck s = tt
low_of l u n w h₁ h₂ (is v m) s =
    pick-lt (SoundR l) v 56320 (λ _. tt) (λ h₃.
    pick-le (SoundR l) 57344 v (λ _. tt) (λ h₄. pair-sound l u n v m w s h₁ h₂ h₃ h₄))

from-unit : (l : List ℕ) (w : Sequence) → SoundUnit l w → SoundR l (paired l w)
from-unit l stuck s = tt
from-unit l (is u n) s =
    pick-lt (SoundR l) u 55296 (λ h. low-sound l u n s (inl h)) (λ h₁.
    pick-le (SoundR l) 57344 u (λ h. low-sound l u n s (inr h)) (λ _.
    pick-le (SoundR l) 56320 u (λ _. tt) (λ h₂. low_of l u n s h₁ h₂ (unit_of (drop n l)) (unit-sound (drop n l)))))

pub scalar-sound : (l : List ℕ) → SoundR l (scalar_of l)
unfolding scalar_of
scalar-sound l = from-unit l (unit_of l) (unit-sound l)

pair_is : (hi lo c : ℕ) → 65536 + (hi % 1024 * 1024 + lo % 1024) ≡ c → pair_of hi lo ≡ c
unfolding pair_of
pair_is hi lo c p = p

low-back : (c : ℕ) (l : List ℕ) → c < 65536 → (c < 55296) ⊎ (57344 ≤ c) → scalar_of (scalar_bytes c ++ l) ≡ is c (length (scalar_bytes c))
unfolding scalar_of
low-back c l k d = rw (sb-low c k, unit-back c k l)
    (⊎_elim (λ h. simp (lt-ltb c 55296 h)) (λ h. simp (le-ltb c 55296 (omega arith), le-leb 57344 c h)) d)

high-back : (hi lo c : ℕ) (l : List ℕ) → 55296 ≤ hi → hi < 56320 → 56320 ≤ lo → lo < 57344 → 65536 + (hi % 1024 * 1024 + lo % 1024) ≡ c
    → scalar_of (unit_bytes hi ++ unit_bytes lo ++ l) ≡ is c (length (unit_bytes hi ++ unit_bytes lo))
unfolding scalar_of
high-back hi lo c l h₁ h₂ h₃ h₄ p =
    rw (append_assoc (unit_bytes hi) (unit_bytes lo) l, unit-back hi (omega arith) (unit_bytes lo ++ l))
    (simp (le-ltb hi 55296 h₁, lt-leb 57344 hi (omega arith), lt-leb 56320 hi h₂)
    (simp (drop-append_seam, unit-back lo (omega arith) l, le-ltb lo 56320 h₃, lt-leb 57344 lo h₄, length-append, pair_is hi lo c p)))

pub scalar-back : (c : ℕ) → IsScalar c → (l : List ℕ) → scalar_of (scalar_bytes c ++ l) ≡ is c (length (scalar_bytes c))
scalar-back c s l = ⊎_elim
    (λ k. low-back c l k s.0)
    (λ k. let z : c < 1114112 = s.1 in rw (sb-high c k) (high-back _ _ c l (omega arith) (omega arith) (omega arith) (omega arith) (omega arith)))
    (lt-or c 65536)

abbrev pub mutf8 : Coding
mutf8 = record { enc = scalar_bytes; one = scalar_of; some = scalar-some; sound = scalar-sound; back = scalar-back }

-- ---- by the unit that stands first

pub scalar-of : (l : List ℕ) (v : Sequence) → unit_of l ≡ v → scalar_of l ≡ paired l v
unfolding scalar_of
scalar-of l v e = rw e refl
