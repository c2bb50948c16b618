-- Laws of buffers that are filled place by place.
-- Assumes nothing.
use Prim.Native.Nat.{ℕ, zero, suc, ◌+◌, ◌-◌, ◌≤◌, ◌<◌, min}
use mathlib.Core.List.{List, [], ◌∷◌, ◌++◌}
use mathlib.Core.Path.{◌≡◌, refl, sym, ◌∙◌, subst}
use native.Mathlib.Omega.{arith}
use native.Mathlib.Nat.{zero-add}
use native.Mathlib.Numerals.{add-one}
use lib.ListN.{length, set, take, drop, replicate, length-append, length-drop, length-replicate}
use lib.Seq.{length-take-le, drop-drop}
use borrow.Rule.Slice.PartMut.{put_mid}
use Rattle.form.specs.Spans.{over}
use Rattle.form.proofs.Table.{over_none, over-next}
use Rattle.lines.specs.Buffers.{firsts, with_byte}

-- ---- one element more

-- What is put right behind the first elements belongs to them.
pub front-next : (l ws : List ℕ) (n x : ℕ) → length ws ≡ n → n < length l → set (over l 0 ws) n x ≡ over l 0 (ws ++ (x ∷ []))
front-next l ws n x e h =
    let p : 0 + length ws ≡ n = zero-add (length ws) ∙ e in
    subst (λ k. set (over l 0 ws) k x ≡ over l 0 (ws ++ (x ∷ []))) p (over-next l 0 ws x (rw p h))

-- ---- what a function gives for each place

pub firsts-length : (f : ℕ → ℕ) (n : ℕ) → length (firsts f n) ≡ n
unfolding firsts
firsts-length f zero = refl
firsts-length f (suc n) = length-append (firsts f n) (f n ∷ []) ∙ rw (firsts-length f n) (add-one n)

module _ (f : ℕ → ℕ) (l : List ℕ) where
  pub firsts-start : l ≡ over l 0 (firsts f 0)
  unfolding firsts
  firsts-start = sym (over_none l 0)

  firsts-next : (n : ℕ) → n < length l → set (over l 0 (firsts f n)) n (f n) ≡ over l 0 (firsts f (n + 1))
  unfolding firsts
  firsts-next n h = rw (add-one n) (front-next l (firsts f n) n (f n) (firsts-length f n) h)

  -- A store of what the function gives for its place.
  pub firsts-put : (m : List ℕ) (n x : ℕ) → m ≡ over l 0 (firsts f n) → x ≡ f n → n < length l → set m n x ≡ over l 0 (firsts f (n + 1))
  firsts-put m n x e v h = rw (e, v) (firsts-next n h)

-- ---- one byte at each place

-- A span that was filled, up to the buffer's end or before it.
pub filled : (l put : List ℕ) (start to end b : ℕ) → start ≤ end → end ≡ min to (length l)
    → put ≡ replicate (length (take (end - start) (drop start l))) b → put_mid start (end - start) l put ≡ with_byte l start to b
unfolding with_byte over
filled l put start to end b s e p =
    let n : length (take (end - start) (drop start l)) ≡ end - start =
    length-take-le (end - start) (drop start l) (simp length-drop (omega arith)) in
    rw (p, n, ← e, length-replicate, drop-drop) refl

-- The same from the front on.
pub filled-front : (l put : List ℕ) (to end b : ℕ) → end ≡ min to (length l) → put ≡ replicate (length (take end l)) b
    → put ++ drop end l ≡ with_byte l 0 to b
filled-front l put to end b e p =
    let whole : end - 0 ≡ end = omega arith in
    rw whole at (filled l put 0 to end b (omega arith) e (rw whole p))

-- Nothing was filled.
pub filled-none : (l : List ℕ) (start to end b : ℕ) → end ≤ start → end ≡ min to (length l) → l ≡ with_byte l start to b
unfolding with_byte
filled-none l start to end b s e =
    let n : min to (length l) - start ≡ 0 = omega arith in
    rw n (sym (over_none l start))
