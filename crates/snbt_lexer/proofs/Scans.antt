-- One byte of rule 11, from what the code's tests and calls say of it.
-- Assumes nothing.
use Prim.Native.Nat.{ℕ}
use mathlib.Core.Path.{◌≡◌, refl}
use mathlib.Core.Bool.{Bool, true, false, not, ◌||◌}
use borrow.Author.Tests.{eq-eqb, ne_eqb}
use Rattle.form.specs.Answer.{pick}
use Rattle.snbt_form.specs.Lexing.{Scan, marked, grown, after}

-- ---- the scan after a byte

module _ (s : Scan) (b i : ℕ) where
  pub after-slash : b ≡ 92 → marked s s.single s.double true ≡ after s b i
  unfolding after
  after-slash e = rw (eq-eqb b 92 e) refl

  pub after-single : (r : Bool) → (b ≡ 92 → ⊥) → b ≡ 39 → r ≡ pick (s.escape || s.double) s.single (not s.single) → marked s r s.double false ≡ after s b i
  unfolding after
  after-single r n e is = rw (ne_eqb b 92 n, eq-eqb b 39 e, is) refl

  pub after-double : (r : Bool) → (b ≡ 92 → ⊥) → (b ≡ 39 → ⊥) → b ≡ 34 → r ≡ pick (s.escape || s.single) s.double (not s.double) → marked s s.single r false ≡ after s b i
  unfolding after
  after-double r n m e is = rw (ne_eqb b 92 n, ne_eqb b 39 m, eq-eqb b 34 e, is) refl

  pub after-other : (s' : Scan) → (b ≡ 92 → ⊥) → (b ≡ 39 → ⊥) → (b ≡ 34 → ⊥) → s' ≡ grown s b i → s' ≡ after s b i
  unfolding after
  after-other s' n m o is = rw (ne_eqb b 92 n, ne_eqb b 39 m, ne_eqb b 34 o) is
