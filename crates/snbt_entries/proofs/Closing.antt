-- The end of a compound, and a name behind its length.
-- Assumes nothing.
use Prim.Native.Nat.{ℕ, ◌+◌, ◌≤◌, ◌<◌}
use mathlib.Core.Path.{◌≡◌, refl, sym, ap, ◌∙◌}
use mathlib.Core.List.{List, ◌++◌}
use native.Mathlib.Omega.{arith}
use borrow.Author.Tests.{lt-leb, le-leb}
use lib.ListN.{length, take}
use lib.Seq.{length-take-le}
use Rattle.form.specs.Answer.{got, no, output_full}
use Rattle.form.specs.Tree as tree
use Rattle.form.specs.Numbers.{bytes_of}
use Rattle.form.specs.Spans.{part, over}
use Rattle.form.specs.Layout.{string_bytes}
use Rattle.form.proofs.Digits.{digits-length}
use Rattle.form.proofs.Table.{over-over}
use Rattle.snbt_form.specs.Text.{close_at}

-- ---- the end byte

module _ (t : List ℕ) (room p n u : ℕ) where
  pub close-full : room < u + 1 → close_at t room p n u ≡ no output_full p
  unfolding close_at
  close-full h = rw (lt-leb (u + 1) room h) refl

  pub close-fits : u + 1 ≤ room → close_at t room p n u ≡ got (record { entries = tree.ended; next = n; used = u + 1 })
  unfolding close_at
  close-fits h = rw (le-leb (u + 1) room h) refl

-- ---- a name behind its length

pub name-over : (o o₁ o₂ b : List ℕ) (at n : ℕ) → n ≤ length b → at + 2 + n ≤ length o → o₁ ≡ over o at (bytes_of 2 n) → o₂ ≡ over o₁ (at + 2) (part b 0 n)
    → o₂ ≡ over o at (string_bytes (take n b))
name-over o o₁ o₂ b at n h f e₁ e₂ =
    let l : length (take n b) ≡ n = length-take-le n b h in
    let two : at + 2 ≡ at + length (bytes_of 2 n) = omega (arith, digits-length 2 n) in
    let a : o₂ ≡ over o at (bytes_of 2 n ++ take n b) = e₂ ∙ rw (e₁, two) (over-over o at (bytes_of 2 n) (omega (arith, digits-length 2 n)) (take n b)) in
    a ∙ ap (λ x. over o at (bytes_of 2 x ++ take n b)) (sym l)
