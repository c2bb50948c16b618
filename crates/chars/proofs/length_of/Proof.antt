-- Right by the form that a unit of that size takes; above the basic plane two units of three bytes.
-- Assumes nothing.
use mathlib.Core.Path.{refl, sym}
use native.Mathlib.Omega.{arith}
use Rattle.form.proofs.Units.{ub-one, ub-nul, ub-two, ub-three}
use Rattle.form.proofs.Scalars.{sb-low}
use Rattle.chars.proofs.Puts.{pair-length}
use Rattle.chars.proofs.length_of.Statement.{statement}
use Rattle.chars.proofs.length_of.Tie as tie

-- 2048 or more
abbrev start_of : tie.Else-c-lt2048 → tie.Start
start_of c = c.before.before.before

pub length_of_spec : {M : Type 1} → statement M
length_of_spec =
    tie.close
    (tie.spec
    (λ c. let x = c.before.args.c in rw (sb-low x (omega arith), ub-nul x (omega arith)) refl)
    (λ c. let x = c.before.before.args.c in rw (sb-low x (omega arith), ub-one x (omega arith) (omega arith)) refl)
    (λ c. let x = c.before.before.before.args.c in rw (sb-low x (omega arith), ub-two x (omega arith) (omega arith)) refl)
    (λ c. let x = (start_of c.before).args.c in rw (sb-low x (omega arith), ub-three x (omega arith)) refl)
    (λ c. sym (pair-length (start_of c.before).args.c (omega arith))))
