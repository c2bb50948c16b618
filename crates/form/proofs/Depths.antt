-- Laws of depth (refusal 7): what `shallow` says of the first of some records.
-- Assumes nothing.
use Prim.Native.Nat.{ℕ, ◌+◌, ◌-◌}
use mathlib.Core.Path.{◌≡◌, refl, sym}
use mathlib.Core.Bool.{true, not, ◌||◌}
use lib.Dec.{ltb}
use Rattle.form.specs.Answer.{Out, got, no, ◌>>◌, too_deep}
use Rattle.form.specs.Table.{Head, Forest, none, node, size, holds}
use Rattle.form.specs.Query.{shallow}
use Rattle.form.proofs.Answer.{got-no, guard-got}

pub shallow-none : (left n : ℕ) → shallow left n none ≡ got tt
unfolding shallow
shallow-none left n = refl

module _ (left n : ℕ) (h : Head) (inner later : Forest) where
  -- A container where none may stand.
  pub shallow-stop : holds h.kind ≡ true → left ≡ 0 → shallow left n (node h inner later) ≡ no too_deep n
  unfolding shallow
  shallow-stop k z = rw (k, z)

  -- Any other record.
  pub shallow-on : (not (holds h.kind) || ltb 0 left) ≡ true
      → shallow left n (node h inner later) ≡ (shallow (left - 1) (n + 1) inner >> shallow left (n + 1 + size inner) later)
  unfolding shallow
  shallow-on e = rw (shallow, e)

  -- Where all is fine.
  pub shallow-parts : shallow left n (node h inner later) ≡ got tt
      → ((not (holds h.kind) || ltb 0 left) ≡ true) × (shallow (left - 1) (n + 1) inner ≡ got tt) × (shallow left (n + 1 + size inner) later ≡ got tt)
  unfolding shallow
  shallow-parts e =
      let g = guard-got (not (holds h.kind) || ltb 0 left) too_deep n (shallow (left - 1) (n + 1) inner >> shallow left (n + 1 + size inner) later) e in
      let b = both (shallow (left - 1) (n + 1) inner) (shallow left (n + 1 + size inner) later) g.1 in
      (g.0, b.0, b.1)
    where
      both : (o r : Out (Unit {0})) → (o >> r) ≡ got tt → (o ≡ got tt) × (r ≡ got tt)
      both (got tt) r f = (refl, f)
      both (no m p) r f = absurd (got-no (sym f))

-- A refusal stays, and after a value the rest decides.
pub then-no : {A : Type 0} (o : Out A) (r : Out A) (m p : ℕ) → o ≡ no m p → (o >> r) ≡ no m p
then-no o r m p e = rw e

pub then-got : (o r : Out (Unit {0})) → o ≡ got tt → (o >> r) ≡ r
then-got o r e = rw e
