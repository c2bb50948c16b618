-- Laws of places that move up: by one where another is put in, and by more where a run is merged.
-- Assumes nothing.
use Prim.Native.Nat.{ℕ, zero, suc, ◌+◌, ◌-◌, ◌≤◌, ◌<◌}
use mathlib.Core.List.{List, [], ◌∷◌, ◌++◌, append_assoc}
use mathlib.Core.Logic.{◌⊎◌, inl, inr}
use mathlib.Core.Path.{◌≡◌, refl, sym, ap, ◌∙◌}
use native.Mathlib.Omega.{arith}
use native.Mathlib.Numerals.{sub-one, add-one}
use lib.ListN.{length, get_or, take, drop, set, length-append, length-take, length-drop, get_or-append}
use lib.Seq.{take-suc, take-take, take-append-le, drop-cons, split_at, set_at, get_or_at, get_or-append-add, get_or-take, get_or-drop, length-take-le, take-set-le, get_or-set_same, get_or-set_other}
use Rattle.form.specs.Spans.{part}
use Rattle.form.proofs.Picks.{lt-or}
use Rattle.snbt_keys.specs.Keys.{put_in, Lifted}

-- ---- the same front

pub place-front : (k k' : List ℕ) (n : ℕ) → take n k ≡ take n k' → (i : ℕ) → i < n → get_or k i 0 ≡ get_or k' i 0
place-front k k' n e i h = sym (get_or-take n k i 0 h) ∙ ap (λ l. get_or l i 0) e ∙ get_or-take n k' i 0 h

pub take_less : (a b : ℕ) (k k' : List ℕ) → a ≤ b → take b k ≡ take b k' → take a k ≡ take a k'
take_less a b k k' h e = sym (take-take a b k h) ∙ ap (take a) e ∙ take-take a b k' h

-- ---- by one

module _ (k : List ℕ) (top : ℕ) (fits : top < length k) where
  -- with what stands at top put in there, nothing has changed
  pub put-start : k ≡ put_in k top top (get_or k top 0)
  put-start =
      let e : top - top ≡ 0 = omega arith in
      rw (e, add-one top) (split_at k top 0 fits)

  -- a place in the place of another
  pub put-over : (i x y : ℕ) → i ≤ top → set (put_in k top i x) i y ≡ put_in k top i y
  put-over i x y h = set_at (take i k) x (part k i (top - i) ++ drop (top + 1) k) y i (length-take-le i k (omega arith))

  -- what stands before the index is as it was
  pub put-before : (i x j : ℕ) → i ≤ top → j < i → get_or (put_in k top i x) j 0 ≡ get_or k j 0
  put-before i x j h l =
      get_or-append (take i k) (x ∷ (part k i (top - i) ++ drop (top + 1) k)) 0 j (simp length-take (omega arith)) ∙ get_or-take i k j 0 l

  -- what was put in
  pub put-here : (i x : ℕ) → i ≤ top → get_or (put_in k top i x) i 0 ≡ x
  put-here i x h = get_or_at (take i k) x (part k i (top - i) ++ drop (top + 1) k) 0 i (length-take-le i k (omega arith))

  -- one place is moved up
  pub put_next : (i : ℕ) → 0 < i → i ≤ top → put_in k top i (get_or k (i - 1) 0) ≡ put_in k top (i - 1) (get_or k (i - 1) 0)
  put_next zero h l = absurd (omega arith)
  put_next (suc i) h l =
      let e : top - i ≡ suc (top - suc i) = omega arith in
      let f : i < length k = omega arith in
      rw (sub-one (suc i), e, take-suc k i 0 f, drop-cons k i 0 f, append_assoc (take i k) (get_or k i 0 ∷ []) (get_or k i 0 ∷ (part k (suc i) (top - suc i) ++ drop (top + 1) k))) refl

  -- those from the index on stand one further up
  pub put-behind : (i x j : ℕ) → i ≤ j → j < top → get_or (put_in k top i x) (j + 1) 0 ≡ get_or k j 0
  put-behind i x j h l =
      let e : j + 1 ≡ length (take i k) + suc (j - i) = simp length-take (omega arith) in
      rw e (get_or-append-add (take i k) (x ∷ (part k i (top - i) ++ drop (top + 1) k)) (suc (j - i)) 0
      ∙ get_or-append (part k i (top - i)) (drop (top + 1) k) 0 (j - i) (simp (length-take, length-drop) (omega arith))
      ∙ get_or-take (top - i) (drop i k) (j - i) 0 (omega arith)
      ∙ get_or-drop i k (j - i) 0
      ∙ (let f : i + (j - i) ≡ j = omega arith in rw f refl))

  -- those behind top are as they were
  pub put-beyond : (i x j : ℕ) → i ≤ top → top + 1 ≤ j → get_or (put_in k top i x) j 0 ≡ get_or k j 0
  put-beyond i x j h l =
      let e : j ≡ length (take i k) + suc (length (part k i (top - i)) + (j - (top + 1))) = simp (length-take, length-drop) (omega arith) in
      let f : top + 1 + (j - (top + 1)) ≡ j = omega arith in
      ap (λ z. get_or (put_in k top i x) z 0) e
      ∙ get_or-append-add (take i k) (x ∷ (part k i (top - i) ++ drop (top + 1) k)) (suc (length (part k i (top - i)) + (j - (top + 1)))) 0
      ∙ get_or-append-add (part k i (top - i)) (drop (top + 1) k) (j - (top + 1)) 0
      ∙ get_or-drop (top + 1) k (j - (top + 1)) 0
      ∙ ap (λ z. get_or k z 0) f

  -- the places of the compounds around are as they were
  pub put_front : (i x base : ℕ) → i ≤ top → base ≤ i → take base (put_in k top i x) ≡ take base k
  put_front i x base h l =
      take-append-le base (take i k) (x ∷ (part k i (top - i) ++ drop (top + 1) k)) (simp length-take (omega arith)) ∙ take-take base i k l

  -- there are as many as there were
  pub put-length : (i x : ℕ) → i ≤ top → length (put_in k top i x) ≡ length k
  put-length i x h = simp (length-append, length-take, length-drop) (omega arith)

-- The places from i up to top have been moved up.
module _ (k₀ k : List ℕ) (top i : ℕ) (fits : top < length k₀) (l : i ≤ top) (m : k ≡ put_in k₀ top i (get_or k₀ i 0)) where
  pub moved-next : 0 < i → set k (i - 1 + 1) (get_or k (i - 1) 0) ≡ put_in k₀ top (i - 1) (get_or k₀ (i - 1) 0)
  moved-next h =
      let e : get_or k (i - 1) 0 ≡ get_or k₀ (i - 1) 0 = rw m (put-before k₀ top fits i (get_or k₀ i 0) (i - 1) l (omega arith)) in
      let f : i - 1 + 1 ≡ i = omega arith in
      rw (f, e, m) (put-over k₀ top fits i (get_or k₀ i 0) (get_or k₀ (i - 1) 0) l ∙ put_next k₀ top fits i h l)

  pub moved-end : (j x : ℕ) → j ≤ i → i ≤ j → set k j x ≡ put_in k₀ top j x
  moved-end j x p q = let e : i ≡ j = omega arith in rw (m, e) (put-over k₀ top fits j (get_or k₀ j 0) x (omega arith))

-- ---- by n

-- The places from i up to b have been moved up by n.
module _ (k₀ k : List ℕ) (b n i : ℕ) (to : i ≤ b) (fits : b + n ≤ length k) (l : Lifted k₀ i b n k) where
  pub lifting-next : 0 < i → Lifted k₀ (i - 1) b n (set k (i - 1 + n) (get_or k (i - 1) 0))
  lifting-next h =
      record {
        front = take-set-le (i - 1 + n) k (i - 1 + n) (get_or k (i - 1) 0) (omega arith) ∙ take_less (i - 1 + n) (i + n) k k₀ (omega arith) l.front;
        moved = λ j p q. go j p q (lt-or j i);
        behind = λ j p. get_or-set_other k (i - 1 + n) j (get_or k (i - 1) 0) 0 (λ e. absurd (omega (arith, e))) ∙ l.behind j p;
      }
    where
      go : (j : ℕ) → i - 1 ≤ j → j < b → (j < i) ⊎ (i ≤ j) → get_or (set k (i - 1 + n) (get_or k (i - 1) 0)) (j + n) 0 ≡ get_or k₀ j 0
      go j p q (inl r) =
          let e : j ≡ i - 1 = omega arith in
          rw e (get_or-set_same k (i - 1 + n) (get_or k (i - 1) 0) 0 (omega arith) ∙ place-front k k₀ (i + n) l.front (i - 1) (omega arith))
      go j p q (inr r) = get_or-set_other k (i - 1 + n) (j + n) (get_or k (i - 1) 0) 0 (λ e. absurd (omega (arith, e))) ∙ l.moved j r q
