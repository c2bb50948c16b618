-- `decimals::decimal_number` meets its contract: the definition by the token's ending.
-- Assumes nothing.
use borrow.Author.Rules.{rules}
use mathlib.Core.Path.{◌≡◌, sym, ap, ◌∙◌}
use mathlib.Core.Bool.{true, false}
use Prim.Native.Nat.{◌-◌}
use lib.Seq.{slice}
use Rattle.snbt_form.specs.Numbers.{real_number, decimal_number}
use Rattle.snbt_numbers.specs.declared.decimals.Ending.{Ending}
use Rattle.snbt_numbers.proofs.Grammar.{ended, decimal-number, no-decimal}
use Rattle.snbt_numbers.proofs.decimals.decimal_number.Statement.{statement}
use Rattle.snbt_numbers.proofs.decimals.decimal_number.Tie as tie

-- the definition at an ending that the code has found
at-ending : (c : tie.After-ending_of-ending) (e : Ending) → c.ending_of-ending.result ≡ e → let a = c.args in
    ended e (slice a.start (a.end - 1) a.text.now) (slice a.start a.end a.text.now) a.start ≡ decimal_number (slice a.start a.end a.text.now) a.start
at-ending c e q =
    decimal-number c.args.start c.args.end c.args.start e c.args.text.now c.if-end-start.false c.requires.1 (sym q ∙ c.ending_of-ending.ensures)

pub decimal_number_spec : {M : Type 1} → statement M
decimal_number_spec =
    tie.close
    (tie.spec
    (λ c. let a = c.args in no-decimal a.start a.end a.start a.text.now c.if-end-start.true)
    (λ c. search rules)
    (λ c. search rules)
    (λ c κs. search rules)
    (λ c. search rules)
    (λ c. search rules)
    (λ c κs. search rules)
    (λ c κs. search rules)
    (λ c. search rules)
    (λ c. search rules)
    (λ c κs. search rules)
    (λ c κs. search rules)
    (λ c. search rules)
    (λ c κs. search rules)
    (λ c κs. search rules)
    (λ c. search rules)
    (λ c. c.token_of.ensures ∙ ap (real_number true) (c.decimal_at.ensures _) ∙ at-ending c.before.before.before _ c.in-Float.is)
    (λ c. c.token_of-in-Double.ensures ∙ ap (real_number false) (c.decimal_at-in-Double.ensures _) ∙ at-ending c.before.before.before _ c.in-Double.is)
    (λ c. c.token_of-in-Digit.ensures ∙ ap (real_number false) (c.decimal_at-in-Digit.ensures _) ∙ at-ending c.before.before.before _ c.in-Digit.is)
    (λ c. at-ending c.before _ c.in-Other.is))
