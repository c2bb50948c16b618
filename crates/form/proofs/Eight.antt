-- Laws of the edition before parents (Eight.antt): one tree's words in the two editions differ by the ninth alone, and where they stand.
-- Assumes nothing.
use Prim.Native.Nat.{ℕ, zero, suc, ◌+◌, ◌*◌, ◌/◌, ◌%◌, ◌≤◌, ◌<◌}
use mathlib.Core.Path.{◌≡◌, refl, sym, ap, subst, ◌∙◌}
use mathlib.Core.List.{List, [], ◌∷◌, ◌++◌, append_assoc, append-nil}
use native.Mathlib.Omega.{arith}
use lib.ListN.{length, get_or, take, drop, length-append, length-drop, get_or-append}
use lib.Seq.{drop_at, drop-append-le, take-append-le, get_or-drop, ext_get_or, length-take-le}
use Rattle.form.specs.Table.{Forest, none, node, size, word, flat}
use Rattle.form.specs.Eight.{old_words, old_word, old_flat, narrow}
use Rattle.form.specs.Records.{Sits, Under, SitsAt}
use Rattle.form.proofs.Table.{flat-length}
use Rattle.form.proofs.Tables.{words-sit}
use Rattle.form.proofs.Places.{part_at}
use Rattle.form.proofs.Records.{sits-at, sits-too, same-words}

-- ---- words without the ninth

pub narrow-length : (n : ℕ) (t : List ℕ) → 9 * n ≤ length t → length (narrow n t) ≡ 8 * n
unfolding narrow
narrow-length zero t h = refl
narrow-length (suc n) t h =
    let front : length (take 8 t) ≡ 8 = length-take-le 8 t (omega arith) in
    length-append (take 8 t) (narrow n (drop 9 t)) ∙ omega (arith, front, narrow-length n (drop 9 t) (simp length-drop (omega arith)))

-- Records one after the other lose their ninth words each for itself.
narrow-append : (n m : ℕ) (s t : List ℕ) → length s ≡ 9 * n → narrow (n + m) (s ++ t) ≡ narrow n s ++ narrow m t
unfolding narrow
narrow-append zero m [] t h = let z : 0 + m ≡ m = omega arith in rw z refl
narrow-append zero m (v ∷ s) t h = absurd (omega arith)
narrow-append (suc n) m s t h =
    let z : suc n + m ≡ suc (n + m) = omega arith in
    rw (
      z,
      take-append-le 8 s t (omega arith),
      drop-append-le 9 s t (omega arith),
      narrow-append n m (drop 9 s) t (simp length-drop (omega arith)),
    )
    (sym (append_assoc (take 8 s) (narrow n (drop 9 s)) (narrow m t)))

-- One tree's words in the two editions differ by the ninth alone.
pub narrow-flat : (p n : ℕ) (f : Forest) → narrow (size f) (flat p n f) ≡ old_flat n f
unfolding narrow flat old_flat size
narrow-flat p n none = refl
narrow-flat p n (node h inner later) =
    let z : 1 + size inner + size later ≡ suc (size inner + size later) = omega arith in
    rw z
    (ap (λ (l : List ℕ). old_words h (n + 1 + size inner) ++ l)
    (narrow-append (size inner) (size later) (flat n (n + 1) inner) (flat p (n + 1 + size inner) later) (flat-length n (n + 1) inner)
    ∙ rw (narrow-flat n (n + 1) inner, narrow-flat p (n + 1 + size inner) later) refl))

-- The words that stay are those that were there.
pub narrow-word : (n : ℕ) (t : List ℕ) → 9 * n ≤ length t → (i : ℕ) → i < n → (k : ℕ) → k < 8 → old_word (narrow n t) i k ≡ word t i k
unfolding narrow
narrow-word zero t h i l k m = absurd (omega arith)
narrow-word (suc n) t h zero l k m =
    let z : 0 + k ≡ k = omega arith in
    rw z
    (get_or-append (take 8 t) (narrow n (drop 9 t)) 0 k (rw (length-take-le 8 t (omega arith)) m)
    ∙ part_at t 0 8 k m
    ∙ ap (λ (x : ℕ). get_or t x 0) z)
narrow-word (suc n) t h (suc i) l k m =
    let front : length (take 8 t) ≡ 8 = length-take-le 8 t (omega arith) in
    let rest = narrow n (drop 9 t) in
    let a : 8 * suc i + k ≡ 8 + (8 * i + k) = omega arith in
    let b : 9 * suc i + k ≡ 9 + (9 * i + k) = omega arith in
    rw (a, b)
    (sym (get_or-drop 8 (take 8 t ++ rest) (8 * i + k) 0)
    ∙ ap (λ (x : List ℕ). get_or x (8 * i + k) 0) (drop_at (take 8 t) rest 8 front)
    ∙ narrow-word n (drop 9 t) (simp length-drop (omega arith)) i (omega arith) k m
    ∙ get_or-drop 9 t (9 * i + k) 0)

-- ---- where a tree's words stand

pub old-length : (f : Forest) → length (old_flat 0 f) ≡ 8 * size f
old-length f = ap length (sym (narrow-flat 0 0 f)) ∙ narrow-length (size f) (flat 0 0 f) (omega (arith, flat-length 0 0 f))

-- Words of a tree are its own.
pub flat-sits : (f : Forest) → Sits (flat 0 0 f) 0 f × Under (flat 0 0 f) 0 0 f
flat-sits f = let s = words-sit (flat 0 0 f) 0 0 f [] (sym (append-nil (flat 0 0 f))) in (s.0, s.1)

pub old-sits : (f : Forest) → SitsAt (old_word (old_flat 0 f)) 0 f
old-sits f =
    let t = flat 0 0 f in
    sits-too (word t) (old_word (old_flat 0 f)) 0 f (sits-at t 0 f (flat-sits f).0)
    (λ i lo hi k l.
    ap (λ (x : List ℕ). old_word x i k) (sym (narrow-flat 0 0 f)) ∙ narrow-word (size f) t (omega (arith, flat-length 0 0 f)) i (omega arith) k l)

-- Where a tree stands, the words are its own.
pub sits-old : (ws : List ℕ) (f : Forest) → SitsAt (old_word ws) 0 f → length ws ≡ 8 * size f → ws ≡ old_flat 0 f
sits-old ws f s long =
    ext_get_or 0 ws (old_flat 0 f) (long ∙ sym (old-length f))
    (λ j h.
    let e : j ≡ 8 * (j / 8) + j % 8 = omega arith in
    subst (λ (x : ℕ). get_or ws x 0 ≡ get_or (old_flat 0 f) x 0) (sym e)
    (same-words (old_word ws) (old_word (old_flat 0 f)) 0 f s (old-sits f) (j / 8) (omega arith) (omega arith) (j % 8) (omega arith)))
