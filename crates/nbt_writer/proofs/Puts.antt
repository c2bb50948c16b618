-- Bytes put to the output one after the other.
-- Assumes nothing.
use Prim.Native.Nat.{ℕ, ◌+◌, ◌≤◌}
use mathlib.Core.List.{List, ◌++◌}
use mathlib.Core.Path.{◌≡◌, ap, subst, ◌∙◌}
use native.Mathlib.Omega.{arith}
use lib.ListN.{length}
use Rattle.form.specs.Numbers.{bytes_in}
use Rattle.form.specs.Spans.{over}
use Rattle.form.specs.Form.{Order}
use Rattle.form.proofs.Orders.{bytes-length}
use Rattle.recode.specs.Steps.{Puts}
use Rattle.recode.proofs.Outputs as recode

-- A number of w bytes, x in the code.
pub puts-number : (order : Order) (w v r : ℕ) {o o' : List ℕ} {at x : ℕ} → r ≡ at + w → x ≡ v → o' ≡ over o at (bytes_in order w x) → Puts (bytes_in order w v) o at o' r
puts-number order w v r {o} {o'} {at} f e is = record { is = is ∙ ap (λ y. over o at (bytes_in order w y)) e; next = omega (arith, bytes-length order w v) }

-- Bytes that are the same as those put.
pub puts-same : {xs ys o o' : List ℕ} {at r : ℕ} → xs ≡ ys → Puts xs o at o' r → Puts ys o at o' r
puts-same {o = o} {o' = o'} {at = at} {r = r} e = subst (λ bs. Puts bs o at o' r) e

module _ {xs o : List ℕ} {at : ℕ} {o₁ : List ℕ} {p : ℕ} (a : Puts xs o at o₁ p) (fits : at + length xs ≤ length o) where
  -- The output is as long as it was.
  pub puts-length : length o₁ ≡ length o
  puts-length = recode.puts-length xs o o₁ at p fits a

  -- What is put right after it.
  pub puts_then : {ys o₂ : List ℕ} {q : ℕ} → Puts ys o₁ p o₂ q → Puts (xs ++ ys) o at o₂ q
  puts_then {ys} {o₂} {q} b = recode.puts-more xs o o₁ at p fits a ys o₂ q b
