-- What a list's head leaves in the output, and that of the empty list.
-- Assumes nothing.
use Prim.Native.Nat.{ℕ, ◌+◌, ◌≤◌}
use mathlib.Core.Path.{◌≡◌, refl, sym, ap, ◌∙◌}
use mathlib.Core.List.{List, [], ◌∷◌, append-nil}
use native.Mathlib.Omega.{arith}
use lib.ListN.{length, set}
use Rattle.form.specs.Answer.{got}
use Rattle.form.specs.Numbers.{bytes_of}
use Rattle.form.specs.Spans.{over}
use Rattle.form.specs.Tree.{kind_of, many}
use Rattle.form.specs.Layout.{element_bytes_in, payload_in}
use Rattle.form.proofs.Digits.{digits-length}
use Rattle.form.proofs.Table.{sets_over, over-over}
use Rattle.snbt_placing.specs.Done.{Did}
use Rattle.snbt_lists.specs.Lists.{empty_at}

-- A byte, and others right behind it.
pub head-over : (o o' : List ℕ) (at k : ℕ) (ws : List ℕ) → at + 1 ≤ length o → o' ≡ over (set o at k) (at + 1) ws → o' ≡ over o at (k ∷ ws)
head-over o o' at k ws h e =
    let one : set o at k ≡ over o at (k ∷ []) = sets_over (k ∷ []) o at h in
    e ∙ rw one (over-over o at (k ∷ []) h ws)

-- The head of no elements is the whole payload.
pub empty-did : (o o' : List ℕ) (at next : ℕ) → at + 5 ≤ length o → o' ≡ over o at (0 ∷ bytes_of 4 0) → Did (got (empty_at next at)) o at next (at + 5) 9 o'
unfolding payload_in element_bytes_in kind_of many
empty-did o o' at next h e = record {
  value = empty_at next at;
  same = refl;
  next_is = refl;
  used_is = refl;
  kind_is = refl;
  size_is = omega (arith, ap length (append-nil (0 ∷ bytes_of 4 0)), digits-length 4 0);
  fits = h;
  wrote = e ∙ ap (over o at) (sym (append-nil (0 ∷ bytes_of 4 0)));
}
