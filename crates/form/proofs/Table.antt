-- Laws of trees, their words, and tables in which they are written.
-- Assumes nothing.
use Prim.Native.Nat.{ℕ, ◌+◌, ◌*◌, ◌≤◌, ◌<◌}
use mathlib.Core.List.{List, [], ◌∷◌, ◌++◌, append_assoc, append-nil}
use mathlib.Core.Path.{◌≡◌, refl, sym, ap, ◌∙◌}
use native.Mathlib.Omega.{arith}
use native.Mathlib.Nat.{add_assoc, add-zero}
use lib.ListN.{length, set, take, drop, length-append, length-drop, take-append-drop}
use lib.Seq.{sets, sets-eq, take-append-le, take_at, drop_at, drop-append-add, drop-drop, take-take, length-take-le}
use Rattle.form.specs.Table.{Head, Forest, none, node, size, width, ◌⊕◌, words, flat, wrote}
use Rattle.form.specs.Spans.{over}

pub size_none : size none ≡ 0
unfolding size
size_none = refl

pub width-none : width none ≡ 0
unfolding width
width-none = refl

pub size-one : (h : Head) (f : Forest) → size (node h f none) ≡ 1 + size f
unfolding size
size-one h f = omega arith

pub width_one : (h : Head) (f : Forest) → width (node h f none) ≡ 1
unfolding width
width_one h f = refl

pub size-append : (f g : Forest) → size (f ⊕ g) ≡ size f + size g
unfolding size ◌⊕◌
size-append none g = omega arith
size-append (node h i l) g = omega (arith, size-append l g)

pub width-append : (f g : Forest) → width (f ⊕ g) ≡ width f + width g
unfolding width ◌⊕◌
width-append none g = omega arith
width-append (node h i l) g = omega (arith, width-append l g)

pub append-none : (f : Forest) → f ⊕ none ≡ f
unfolding ◌⊕◌
append-none none = refl
append-none (node h i l) = ap (node h i) (append-none l)

pub append-append : (f g k : Forest) → (f ⊕ g) ⊕ k ≡ f ⊕ (g ⊕ k)
unfolding ◌⊕◌
append-append none g k = refl
append-append (node h i l) g k = ap (node h i) (append-append l g k)

pub width-le-size : (f : Forest) → width f ≤ size f
unfolding width size
width-le-size none = omega arith
width-le-size (node h i l) = omega (arith, width-le-size l)

-- nine words to a record
pub flat-length : (p n : ℕ) (f : Forest) → length (flat p n f) ≡ 9 * size f
unfolding flat size
flat-length p n none = refl
flat-length p n (node h i l) =
    simp length-append (omega (arith, flat-length n (n + 1) i, flat-length p (n + 1 + size i) l))

pub flat_append : (p n : ℕ) (f g : Forest) → flat p n (f ⊕ g) ≡ flat p n f ++ flat p (n + size f) g
unfolding flat size ◌⊕◌
flat_append p n none g = ap (λ k. flat p k g) (sym (add-zero n))
flat_append p n (node h i l) g =
    let e : n + (1 + size i + size l) ≡ n + 1 + size i + size l = omega arith in
    rw (e, flat_append p (n + 1 + size i) l g, append_assoc (flat n (n + 1) i) (flat p (n + 1 + size i) l) (flat p (n + 1 + size i + size l) g)) refl

-- ---- lists written over

pub sets_over : (ws t : List ℕ) (i : ℕ) → i + length ws ≤ length t → sets t i ws ≡ over t i ws
unfolding over
sets_over ws t i h = sets-eq ws t i h ∙ append_assoc (take i t) ws (drop (i + length ws) t)

pub over_none : (t : List ℕ) (i : ℕ) → over t i [] ≡ t
unfolding over
over_none t i = rw add-zero (take-append-drop i t)

module _ (t : List ℕ) (i : ℕ) (ws : List ℕ) (fits : i + length ws ≤ length t) where
  taken : length (take i t) ≡ i
  taken = length-take-le i t (omega arith)

  head-length : length (take i t ++ ws) ≡ i + length ws
  head-length = length-append (take i t) ws ∙ ap (λ n. n + length ws) taken

  pub over-length : length (over t i ws) ≡ length t
  unfolding over
  over-length = simp (length-append, length-drop, taken) (omega arith)

  past : (k : ℕ) → drop (i + length ws + k) ((take i t ++ ws) ++ drop (i + length ws) t) ≡ drop (i + length ws + k) t
  past k =
      ap (λ n. drop (n + k) ((take i t ++ ws) ++ drop (i + length ws) t)) (sym head-length)
      ∙ drop-append-add (take i t ++ ws) (drop (i + length ws) t) k
      ∙ drop-drop k (i + length ws) t

  -- what is written right after
  pub over-over : (vs : List ℕ) → over (over t i ws) (i + length ws) vs ≡ over t i (ws ++ vs)
  unfolding over
  over-over vs =
      rw (
        ← append_assoc (take i t) ws (drop (i + length ws) t),
        take_at (take i t ++ ws) (drop (i + length ws) t) (i + length ws) head-length,
        past (length vs),
        length-append ws vs,
        ← add_assoc i (length ws) (length vs),
        append_assoc (take i t) ws (vs ++ drop (i + length ws + length vs) t),
        append_assoc ws vs (drop (i + length ws + length vs) t),
      )
      refl

-- one element more
pub over-next : (t : List ℕ) (i : ℕ) (ws : List ℕ) (x : ℕ) → i + length ws < length t → set (over t i ws) (i + length ws) x ≡ over t i (ws ++ (x ∷ []))
over-next t i ws x h =
    let fits : i + length ws ≤ length t = omega arith in
    sets_over (x ∷ []) (over t i ws) (i + length ws) (rw (over-length t i ws fits) (omega arith)) ∙ over-over t i ws fits (x ∷ [])

-- what is written right before
pub over-before : (t : List ℕ) (i : ℕ) (vs ws : List ℕ) → i + length vs ≤ length t
    → over (over t (i + length vs) ws) i vs ≡ over t i (vs ++ ws)
unfolding over
over-before t i vs ws h =
    let m : length (take (i + length vs) t) ≡ i + length vs = length-take-le (i + length vs) t h in
    rw (
      take-append-le i (take (i + length vs) t) (ws ++ drop (i + length vs + length ws) t) (rw m (omega arith)),
      take-take i (i + length vs) t (omega arith),
      drop_at (take (i + length vs) t) (ws ++ drop (i + length vs + length ws) t) (i + length vs) m,
      length-append vs ws,
      ← add_assoc i (length vs) (length ws),
      append_assoc vs ws (drop (i + length vs + length ws) t),
    )
    refl

-- ---- tables

-- the words of records n on start at 9 * n
at_next : (p n : ℕ) (f : Forest) → 9 * (n + size f) ≡ 9 * n + length (flat p n f)
at_next p n f = omega (arith, flat-length p n f)

pub wrote_none : (t : List ℕ) (p n : ℕ) → wrote t p n none ≡ t
unfolding wrote flat
wrote_none t p n = over_none t (9 * n)

pub wrote-length : (t : List ℕ) (p n : ℕ) (f : Forest) → 9 * (n + size f) ≤ length t → length (wrote t p n f) ≡ length t
unfolding wrote
wrote-length t p n f h = over-length t (9 * n) (flat p n f) (rw (← at_next p n f) h)

-- records after records
pub wrote-next : (t : List ℕ) (p n : ℕ) (f g : Forest) → 9 * (n + size f) ≤ length t
    → wrote (wrote t p n f) p (n + size f) g ≡ wrote t p n (f ⊕ g)
unfolding wrote
wrote-next t p n f g h =
    rw (at_next p n f, over-over t (9 * n) (flat p n f) (rw (← at_next p n f) h) (flat p (n + size f) g), flat_append p n f g) refl

-- a record's own words, before those of the records in it
pub wrote-head : (t : List ℕ) (p n : ℕ) (h : Head) (f : Forest) → 9 * n + 9 ≤ length t
    → over (wrote t n (n + 1) f) (9 * n) (words h (n + 1 + size f) p) ≡ wrote t p n (node h f none)
unfolding wrote flat
wrote-head t p n h f l =
    let e : 9 * (n + 1) ≡ 9 * n + 9 = omega arith in
    rw (e, over-before t (9 * n) (words h (n + 1 + size f) p) (flat n (n + 1) f) l, append-nil) refl

-- the words of a record with none in it
pub wrote-leaf : (t : List ℕ) (p n : ℕ) (h : Head) → 9 * n + 9 ≤ length t → over t (9 * n) (words h (n + 1) p) ≡ wrote t p n (node h none none)
wrote-leaf t p n h l =
    let e : n + 1 + size none ≡ n + 1 = omega (arith, size_none) in
    rw (← wrote-head t p n h none l, wrote_none t n (n + 1), e) refl
