-- Right by the form that a value of that size takes.
-- Assumes nothing.
use mathlib.Core.Path.{refl}
use native.Mathlib.Omega.{arith}
use Rattle.form.proofs.Utf8.{high_is}
use Rattle.chars.proofs.Puts.{u8-one, u8-two, u8-three}
use Rattle.chars.proofs.utf8_length_of.Statement.{statement}
use Rattle.chars.proofs.utf8_length_of.Tie as tie

-- 2048 or more
abbrev start_of : tie.Else-c-lt2048 → tie.Start
start_of c = c.before.before

pub utf8_length_of_spec : {M : Type 1} → statement M
utf8_length_of_spec =
    tie.close
    (tie.spec
    (λ c. rw (u8-one c.before.args.c (omega arith)) refl)
    (λ c. rw (u8-two c.before.before.args.c (omega arith) (omega arith)) refl)
    (λ c. rw (u8-three (start_of c.before).args.c (omega arith) (omega arith)) refl)
    (λ c. rw (high_is (start_of c.before).args.c (omega arith)) refl))
