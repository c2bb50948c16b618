-- Right by the unit that stands first and, where it is a high half, the one behind it.
-- Assumes nothing.
use Rattle.std.proofs.Common.{◌≡◌, ◌+◌, ◌≤◌, ◌<◌, ℕ, List, drop, arith, sym}
use borrow.Author.Tests.{lt-ltb, le-ltb, le-leb, lt-leb}
use lib.Seq.{drop-drop}
use lib.ListN.{length-drop}
use Rattle.form.specs.Decoding.{Sequence, is, unit_of, with_low, scalar_of}
use Rattle.form.proofs.Units.{unit-fits}
use Rattle.form.proofs.Scalars.{scalar-of}
use Rattle.chars.proofs.Sequences.{scalar_below, scalar-above, scalar-lone, scalar-half}
use Rattle.chars.proofs.scalar_at.Goals as goal

-- what stands behind a high half decides
half : (s : List ℕ) (at u n : ℕ) (v : Sequence) → is u n ≡ unit_of (drop at s) → 55296 ≤ u → u < 56320
    → v ≡ unit_of (drop (at + n) s) → with_low u n v ≡ scalar_of (drop at s)
half s at u n v e h k d = scalar-half _ (sym e) v h k (rw drop-drop (sym d))

pub returns-in_err-first : goal.returns-in_err-first
returns-in_err-first c = rw c.from_residual.ensures (sym (scalar-of _ _ (sym c.in_err-first.ensures)))

pub returns-then-first-lt55296 : goal.returns-then-first-lt55296
returns-then-first-lt55296 c = scalar_below _ (sym c.in_ok-first.ensures) (omega arith)

pub returns-then-first-ge57344 : goal.returns-then-first-ge57344
returns-then-first-ge57344 c = scalar-above _ (sym c.in_ok-first.ensures) (omega arith)

pub returns-then-first-ge56320 : goal.returns-then-first-ge56320
returns-then-first-ge56320 c = scalar-lone _ (sym c.in_ok-first.ensures) (omega arith) (omega arith)

pub overflow_add-at : goal.overflow_add-at
overflow_add-at c = omega (arith, simp length-drop at (unit-fits _ _ _ (sym c.in_ok-first.ensures)))

pub returns-in-None : goal.returns-in-None
returns-in-None c = (half _ _ _ _ _ c.in_ok-first.ensures (omega arith) (omega arith) c.in-None.ensures)

pub returns-then-second-lt56320 : goal.returns-then-second-lt56320
returns-then-second-lt56320 c = let x = c.in-Some.second.value in
    rw (← half _ _ _ _ _ c.in_ok-first.ensures (omega arith) (omega arith) c.in-Some.ensures) (simp (lt-ltb x 56320 (omega arith)))

pub returns-then-second-ge57344 : goal.returns-then-second-ge57344
returns-then-second-ge57344 c = let x = c.in-Some.second.value in
    rw (← half _ _ _ _ _ c.in_ok-first.ensures (omega arith) (omega arith) c.in-Some.ensures) (simp (le-ltb x 56320 (omega arith), le-leb 57344 x (omega arith)))

pub overflow_add-result : goal.overflow_add-result
overflow_add-result c =
    let first = simp length-drop at (unit-fits _ _ _ (sym c.in_ok-first.ensures)) in
    let second = simp length-drop at (unit-fits _ _ _ (sym c.in-Some.ensures)) in
    omega (arith, first, second)

pub returns-else-second-ge57344 : goal.returns-else-second-ge57344
returns-else-second-ge57344 c = let x = c.in-Some.second.value in
    rw (← half _ _ _ _ _ c.in_ok-first.ensures (omega arith) (omega arith) c.in-Some.ensures) (simp (le-ltb x 56320 (omega arith), lt-leb 57344 x (omega arith), c.pair.ensures))
