-- Laws of what was put to an output.
-- Assumes nothing.
use Prim.Native.Nat.{ℕ, ◌+◌, ◌≤◌}
use mathlib.Core.Path.{◌≡◌, sym, ap, ◌∙◌}
use mathlib.Core.List.{List, [], ◌++◌}
use native.Mathlib.Omega.{arith}
use lib.ListN.{length, length-append}
use Rattle.form.specs.Spans.{part, over}
use Rattle.form.proofs.Spans.{part_length}
use Rattle.form.proofs.Table.{over_none, over-length, over-over}
use Rattle.recode.specs.Steps.{Puts}

-- A span that was copied as it stands.
pub copied : (bs t o o₁ : List ℕ) (start size at : ℕ) → start + size ≤ length t → bs ≡ part t start size → o₁ ≡ over o at (part t start size)
    → Puts bs o at o₁ (at + size)
copied bs t o o₁ start size at h e f = rw e (record { is = f; next = ap (λ n. at + n) (sym (part_length t start size h)) })

pub puts_none : (o : List ℕ) (at : ℕ) → Puts [] o at o at
puts_none o at = record { is = sym (over_none o at); next = omega arith }

module _ (bs o o₁ : List ℕ) (at here : ℕ) (fits : at + length bs ≤ length o) (p : Puts bs o at o₁ here) where
  -- The output is as long as it was.
  pub puts-length : length o₁ ≡ length o
  puts-length = ap length p.is ∙ over-length o at bs fits

  -- More of them, right behind.
  pub puts-more : (cs o₂ : List ℕ) (next : ℕ) → Puts cs o₁ here o₂ next → Puts (bs ++ cs) o at o₂ next
  puts-more cs o₂ next q = record {
    is = q.is ∙ (λ i. over (p.is i) (p.next i) cs) ∙ over-over o at bs fits cs;
    next = rw (length-append bs cs) (omega (arith, p.next, q.next));
  }
