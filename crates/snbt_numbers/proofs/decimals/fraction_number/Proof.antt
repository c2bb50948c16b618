-- `decimals::fraction_number` meets its contract: digits behind the point, up to the end or to f or d, are the definition's; `decimal_number` answers for all others.
-- Assumes nothing.
use borrow.Author.Rules.{rules}
use mathlib.Core.Path.{sym, ◌∙◌}
use Prim.Native.Nat.{◌≤◌}
use native.Mathlib.Nat.{le_trans}
use native.Mathlib.Omega.{arith}
use lib.ListN.{length}
use Rattle.snbt_numbers.proofs.Fractions.{head-le, more_room, to_end, to-float, to-double}
use Rattle.snbt_numbers.proofs.decimals.fraction_number.Statement.{statement}
use Rattle.snbt_numbers.proofs.decimals.fraction_number.Tie as tie

-- the token lies in the text
token-in : (c : tie.After-run_from-row) → let a = c.args in (a.start ≤ a.end) × (a.end ≤ length a.text.now)
token-in c = let w = head-le c.requires.1 c.requires.2 in (le_trans w.0 w.1, c.requires.1)

pub fraction_number_spec : {M : Type 1} → statement M
fraction_number_spec =
    tie.close
    (tie.spec
    (λ c. search rules)
    (λ c κs. let p = c.requires in let w = more_room p.1 p.2 p.0 p.3 in (omega (arith, p.0), p.1, w.0, w.1))
    (λ c. search rules)
    (λ c κs. token-in c.before)
    (λ c. search rules)
    (λ c. search rules)
    (λ c. search rules)
    (λ c κs. search rules)
    (λ c.
    c.short_real.ensures ∙ to_end c.requires.1 c.requires.2 c.requires.0 c.requires.3 c.run_from-row.ensures c.if-to-point.false (omega (arith, c.well_formed.0.1)) c.if-to-end.true)
    (λ c. search rules)
    (λ c κs. token-in c.before.before.before)
    (λ c. search rules)
    (λ c. search rules)
    (λ c κs. search rules)
    (λ c. search rules)
    (λ c κs. search rules)
    (λ c. search rules)
    (λ c κs. search rules)
    (λ c. search rules)
    (λ c κs. token-in c.before.before.before.before.before.before)
    (λ c. search rules)
    (λ c κs. token-in c.before.before.before.before.before.before)
    (λ c.
    c.short_real-in-Float.ensures
    ∙ to-float c.requires.1 c.requires.2 c.requires.0 c.requires.3 c.run_from-row.ensures c.if-to-point.false (omega (arith, c.well_formed.0.1)) c.if-to-end-2.false c.if-to-end.false
    (sym c.in-Float.is ∙ c.ending_of-ending.ensures))
    (λ c.
    c.short_real-in-Double.ensures
    ∙ to-double c.requires.1 c.requires.2 c.requires.0 c.requires.3 c.run_from-row.ensures c.if-to-point.false (omega (arith, c.well_formed.0.1)) c.if-to-end-2.false c.if-to-end.false
    (sym c.in-Double.is ∙ c.ending_of-ending.ensures))
    (λ c. search rules)
    (λ c. search rules))
