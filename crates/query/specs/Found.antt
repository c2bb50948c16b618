-- The answer to a query in the terms of rule 9's definitions: how many tags match, or the refusal's number, place and count.
-- Assumes nothing.
use Rattle.std.specs.Prelude.{◌≡◌, Result, Ok, Err, ℕ}
use Rattle.form.specs.Answer.{Out, no, Count, counted, failed}
use Rattle.form.specs.Refusals.{number_of, out_of}
use Rattle.form.specs.declared.refusals.Refused.{Refused}
use Rattle.table.specs.declared.Unfit.{Unfit}
use Rattle.table.specs.Check.{verdict_out}
use Rattle.query.specs.declared.Unanswered.{Unanswered}

-- What a query answers.
abbrev pub found_count : Result ℕ Unanswered → Count
found_count (Ok c) = counted c
found_count (Err u) = failed (number_of u.refusal) u.place u.count

-- Whether containers stand too deep: refusal 7 at a record.
abbrev pub depth_out : Result (Unit {0}) Refused → Out (Unit {0})
depth_out r = out_of (λ x. x) r

-- What `?` makes of a refusal: the same, with no count.
abbrev pub Uncounted : Refused → Unanswered → Type 0
Uncounted r u = u ≡ record { refusal = r.refusal; place = r.place; count = 0 }

-- And of words that are no table to be used.
abbrev pub UnansweredAs : Unfit → Unanswered → Type 0
UnansweredAs f u = (verdict_out (Err f) ≡ no (number_of u.refusal) u.place) × (u.count ≡ 0)
