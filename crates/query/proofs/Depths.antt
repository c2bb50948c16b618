-- Refusal 7 record by record: what `shallow` says of the first of some records, and what the loop keeps.
-- Assumes nothing.
use Prim.Native.Nat.{ℕ, ◌+◌, ◌-◌, ◌≤◌, ◌<◌}
use mathlib.Core.Path.{◌≡◌, refl, sym, ap, ◌∙◌}
use mathlib.Core.List.{List}
use mathlib.Core.Bool.{Bool, true, false, not, ◌||◌}
use lib.Dec.{ltb}
use borrow.Author.Tests.{lt-ltb}
use Rattle.form.specs.Answer.{got, no, ◌>>◌, too_deep}
use Rattle.form.specs.Table.{size, word, holds}
use Rattle.form.specs.Query.{shallow}
use Rattle.form.proofs.Depths.{shallow-none, shallow-stop, shallow-on, then-no, then-got}
use Rattle.query.specs.Found.{depth_out}
use Rattle.std.specs.Prelude.{Result, Ok, Err}
use Rattle.form.specs.Refusals.{number_of}
use Rattle.form.specs.declared.refusals.Refused.{Refused}
use Rattle.query.specs.Sides.{Side}
use Rattle.query.proofs.Sides.{First, side-none, one_side}

open-test : (b : Bool) (left : ℕ) → 0 < left → (not b || ltb 0 left) ≡ true
open-test true left h = lt-ltb 0 left h
open-test false left h = refl

leaf-test : (b : Bool) (left : ℕ) → b ≡ false → (not b || ltb 0 left) ≡ true
leaf-test b left e = rw e

-- ---- at the first of some records

module _ (d : ℕ) (t : List ℕ) (left i end : ℕ) (s : Side d t i end) (f : First d t i end s.forest) where
  -- Where a container may not stand.
  pub deep-here : holds (word t i 0) ≡ true → left ≡ 0 → shallow left i s.forest ≡ no too_deep i
  deep-here k z = ap (shallow left i) f.is ∙ shallow-stop left i f.head f.inner.forest f.later.forest (rw f.stands.kind at k) z

  -- The records in it, then those after it.
  by_parts : (not (holds f.head.kind) || ltb 0 left) ≡ true
      → shallow left i s.forest ≡ (shallow (left - 1) (i + 1) f.inner.forest >> shallow left (word t i 7) f.later.forest)
  by_parts e =
      let x : word t i 7 ≡ i + 1 + size f.inner.forest = f.stands.end in
      rw x (ap (shallow left i) f.is ∙ shallow-on left i f.head f.inner.forest f.later.forest e)

  -- One of the records in it stands too deep.
  pub deep-inside : 0 < left → (r : Result (Unit {0}) Refused) (x : Refused) → depth_out r ≡ shallow (left - 1) (i + 1) f.inner.forest → r ≡ Err x
      → shallow left i s.forest ≡ no (number_of x.refusal) x.place
  deep-inside h r x e k =
      by_parts (open-test (holds f.head.kind) left h)
      ∙ then-no (shallow (left - 1) (i + 1) f.inner.forest) (shallow left (word t i 7) f.later.forest) (number_of x.refusal) x.place (sym e ∙ ap depth_out k)

  -- None of them does.
  pub fine-inside : 0 < left → (r : Result (Unit {0}) Refused) → depth_out r ≡ shallow (left - 1) (i + 1) f.inner.forest → r ≡ Ok tt
      → shallow left i s.forest ≡ shallow left (word t i 7) f.later.forest
  fine-inside h r e k =
      by_parts (open-test (holds f.head.kind) left h)
      ∙ then-got (shallow (left - 1) (i + 1) f.inner.forest) (shallow left (word t i 7) f.later.forest) (sym e ∙ ap depth_out k)

  -- It holds none.
  pub fine-leaf : holds (word t i 0) ≡ false → shallow left i s.forest ≡ shallow left (word t i 7) f.later.forest
  fine-leaf k =
      by_parts (leaf-test (holds f.head.kind) left (rw f.stands.kind at k))
      ∙ then-got (shallow (left - 1) (i + 1) f.inner.forest) (shallow left (word t i 7) f.later.forest) (ap (shallow (left - 1) (i + 1)) (f.bare k) ∙ shallow-none (left - 1) (i + 1))

-- ---- the loop

-- What the loop keeps: the records left, and that the answer on them is the answer on all.
pub record Looks (t : List ℕ) (from end left i : ℕ) : Type 0 where
  pub d : ℕ
  pub here : Side d t i end
  pub goes : (d' : ℕ) (g : Side d' t from end) → shallow left from g.forest ≡ shallow left i here.forest

pub looks-start : (t : List ℕ) (from end left d : ℕ) → Side d t from end → Looks t from end left from
looks-start t from end left d s = record { d = d; here = s; goes = λ d' g. ap (shallow left from) (one_side d' t from end d g s) }

-- One record on.
pub looks-next : (t : List ℕ) (from end left i : ℕ) (l : Looks t from end left i) (f : First l.d t i end l.here.forest)
    → shallow left i l.here.forest ≡ shallow left (word t i 7) f.later.forest → Looks t from end left (word t i 7)
looks-next t from end left i l f e = record { d = l.d; here = f.later; goes = λ d' g. l.goes d' g ∙ e }

-- No record is left.
pub looks-end : (t : List ℕ) (from end left i : ℕ) (l : Looks t from end left i) → end ≤ i → shallow left i l.here.forest ≡ got tt
looks-end t from end left i l h = ap (shallow left i) (side-none l.d t i end l.here h) ∙ shallow-none left i
