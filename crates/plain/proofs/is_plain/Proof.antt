-- Right since the one or two blocks cover a short slice.
-- Assumes nothing.
use Rattle.std.proofs.Common.{◌≡◌, ◌<◌, Bool, ◌&&◌, length, sym, ap, ◌∙◌, arith, rules, le-ltb, lt-ltb}
use Rattle.plain.specs.Runs.{plain_in, short_plain}
use Rattle.plain.proofs.is_plain.Statement.{statement}
use Rattle.plain.proofs.is_plain.Tie as tie

-- a short slice is asked whole
short : (c : tie.After-shared_slice_known-1) (r : Bool) → let a = c.before.args in
    length a.text.now < 64 → r ≡ plain_in a.p a.p a.text.now 0 (length a.text.now) → r ≡ short_plain a.p a.text.now
short c r h e =
    let a = c.before.args in
    e ∙ ap (λ (x : Bool). x && plain_in a.p a.p a.text.now 0 (length a.text.now)) (sym (lt-ltb (length a.text.now) 64 h))

pub is_plain_spec : {M : Type 1} → statement M
is_plain_spec =
    tie.close
    (tie.spec
    (λ c κs. search rules)  -- all-plain-requires
    (λ c. short c.before.before _ (omega arith) c.all_plain.ensures)  -- returns
    (λ c κs. search rules)  -- both-plain-requires
    (λ c. short c.before.before.before _ (omega arith) c.both_plain.ensures)  -- returns-2
    (λ c κs. search rules)  -- both-plain-requires-2
    (λ c. let four = c.before.before in short four.before.before _ (omega arith) c.both_plain-then-size-lt16.ensures)  -- returns-3
    (λ c κs. search rules)  -- both-plain-requires-3
    (λ c. let eight = c.before.before.before in short eight.before.before _ (omega arith) c.both_plain-then-size-lt32.ensures)  -- returns-4
    (λ c κs. search rules)  -- both-plain-requires-4
    (λ c. let eight = c.before.before.before in short eight.before.before.before _ (omega arith) (search rules))  -- returns-5
    (λ c. simp (le-ltb (length c.args.text.now) 64 (omega arith))))  -- returns-6
