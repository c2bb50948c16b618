-- `query_steps::name_step` meets its contract: each way through the code is a law of the definition.
-- Assumes nothing.
use Rattle.std.proofs.Common.{ℕ, ◌+◌, ◌-◌, Bool, List, ◌≡◌, sym, ◌∙◌, arith}
use Rattle.form.specs.Form.{Rule, form_no}
use Rattle.form.specs.Spans.{part}
use Rattle.form.specs.Decoding.{well_formed_in}
use Rattle.query_steps.proofs.Spelling.{name-short, name-cut, name-bad, name-got}
use Rattle.query_steps.proofs.name_step.Goals as goal

-- The part that is judged is the name.
judged : (r : Rule) (q : List ℕ) (a n m : ℕ) → n ≡ m → {b : Bool} → well_formed_in r (part q a (a + n - a)) ≡ b → well_formed_in r (part q a m) ≡ b
judged r q a n m e w = let k : m ≡ a + n - a = omega arith in rw k w

pub returns-then-q-at-lt3 : goal.returns-then-q-at-lt3
returns-then-q-at-lt3 c = name-short _ _ _ (omega arith)

pub returns-then-q-start : goal.returns-then-q-start
returns-then-q-start c = name-cut _ _ _ (omega arith) (omega (arith, c.u16_at-size.ensures))

pub returns-then-not-is_well_formed : goal.returns-then-not-is_well_formed
returns-then-not-is_well_formed c =
    let e = c.u16_at-size.ensures in
    let rule = (form_no c.args.form).strings in
    name-bad _ _ _ (omega arith) (omega (arith, e)) (judged rule _ _ _ _ e (sym c.is_well_formed.ensures ∙ c.if-not-is_well_formed.true))

pub returns : goal.returns
returns c =
    let e = c.u16_at-size.ensures in
    let rule = (form_no c.args.form).strings in
    let good = judged rule _ _ _ _ e (sym c.is_well_formed.ensures ∙ c.if-not-is_well_formed.false) in
    rw e (name-got _ _ _ (omega arith) (omega (arith, e)) c.requires.2 good (omega (arith, e)))
