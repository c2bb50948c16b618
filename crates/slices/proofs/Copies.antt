-- Laws of a copy, byte by byte.
-- Assumes nothing.
use Prim.Native.Nat.{ℕ, ◌+◌, ◌<◌}
use mathlib.Core.List.{List, [], ◌∷◌, ◌++◌}
use mathlib.Core.Path.{◌≡◌, refl, sym, ap, ◌∙◌}
use native.Mathlib.Omega.{arith}
use native.Mathlib.Numerals.{add-one}
use lib.ListN.{length, get_or, set, drop, length-drop}
use lib.Seq.{set_split, take-suc, get_or-drop}
use Rattle.form.specs.Spans.{part, over}
use Rattle.form.proofs.Spans.{part_length}
use Rattle.form.proofs.Table.{over-length, over-over}

-- One byte stored.
pub set-over-one : (l : List ℕ) (i x : ℕ) → i < length l → set l i x ≡ over l i (x ∷ [])
unfolding over
set-over-one l i x h = let e : i + length {A = ℕ} (x ∷ []) ≡ i + 1 = omega arith in rw (e, add-one i) (set_split l i x h)

-- A span of one byte more.
part-more : (t : List ℕ) (start i : ℕ) → start + i < length t → part t start (i + 1) ≡ part t start i ++ (get_or t (start + i) 0 ∷ [])
part-more t start i h = rw (add-one i, take-suc (drop start t) i 0 (simp length-drop (omega arith)), get_or-drop) refl

-- One byte more.
pub copy_more : (t o o₁ : List ℕ) (start at i : ℕ) → o₁ ≡ over o at (part t start i) → start + i < length t → at + i < length o
    → set o₁ (at + i) (get_or t (start + i) 0) ≡ over o at (part t start (i + 1))
copy_more t o o₁ start at i e h f =
    let l : length (part t start i) ≡ i = part_length t start i (omega arith) in
    let m : length o₁ ≡ length o = ap length e ∙ over-length o at (part t start i) (omega (arith, l)) in
    set-over-one o₁ (at + i) (get_or t (start + i) 0) (omega (arith, m))
    ∙ (λ j. over (e j) (at + sym l j) (get_or t (start + i) 0 ∷ []))
    ∙ over-over o at (part t start i) (omega (arith, l)) (get_or t (start + i) 0 ∷ [])
    ∙ ap (over o at) (sym (part-more t start i h))
