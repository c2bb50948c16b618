-- `tail_number` meets its contract: a point at the place where the first digits end makes a decimal; `any_number` answers for all others.
-- Assumes nothing.
use borrow.Author.Rules.{rules}
use mathlib.Core.Path.{◌≡◌, ◌∙◌}
use mathlib.Core.Bool.{false}
use Prim.Native.Nat.{◌≤◌}
use native.Mathlib.Nat.{le_trans}
use lib.ListN.{length}
use lib.Seq.{slice}
use Rattle.snbt_form.specs.Numbers.{is_point, has}
use Rattle.snbt_numbers.proofs.Grammar.{number-with}
use Rattle.snbt_numbers.proofs.Fractions.{head-le, head-no-point, has-point}
use Rattle.snbt_numbers.proofs.tail_number.Statement.{statement}
use Rattle.snbt_numbers.proofs.tail_number.Tie as tie

-- the token and its head lie in the text, and the head has no point
bounds : (s : tie.Start) → let a = s.args in
    (a.start ≤ a.at) × (a.at ≤ a.end) × (a.end ≤ length a.text.now) × (has is_point (slice a.start a.at a.text.now) ≡ false)
bounds s = let w = head-le s.requires.0 s.requires.1 in (w.0, w.1, s.requires.0, head-no-point s.requires.0 s.requires.1)

pub tail_number_spec : {M : Type 1} → statement M
tail_number_spec =
    tie.close
    (tie.spec
    (λ c κs. bounds c.before.before)
    (λ c. search rules)
    (λ c. search rules)
    (λ c κs. search rules)
    (λ c.
    let w = head-le c.requires.0 c.requires.1 in
    c.fraction_number.ensures
    ∙ number-with c.args.start c.args.end c.args.start c.args.text.now (le_trans w.0 w.1) c.requires.0
    (has-point c.requires.0 c.requires.1 c.if-end-at.false c.if-text-at-eq46.true))
    (λ c κs. bounds c.before.before.before.before)
    (λ c. search rules))
