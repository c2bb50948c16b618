-- `wholes::whole_number` meets its contract: each call answers one part of the definition, and `whole-number` joins them.
-- Assumes nothing.
use Rattle.std.proofs.Common.{◌≡◌, ℕ, ap, sym, ◌∙◌}
use Rattle.std.proofs.lemmas.Result.{err_from_is_err_and}
use Rattle.std.specs.Option.{ok_or}
use Rattle.std.specs.Prelude.{Option, Some, None, Result, Err}
use Rattle.form.specs.Answer.{got}
use Rattle.form.specs.declared.refusals.Refused.{Refused}
use Rattle.snbt_numbers.proofs.Tokens.{whole-number, no_whole}
use Rattle.snbt_numbers.proofs.wholes.whole_number.Goals as goal

-- where there is no magnitude, the refusal is the one that was given for it
given : (x : Option ℕ) (l e : Refused) → x ≡ None → ◌≡◌ {A = Result ℕ Refused} (Err e) (ok_or x l) → e ≡ l
given None l e d h = cc
given (Some x) l e d h = cc

pub returns-then-end-start : goal.returns-then-end-start
returns-then-end-start c = let a = c.args in no_whole a.start a.end a.start a.text.now c.if-end-start.true

pub returns-in_err-m : goal.returns-in_err-m
returns-in_err-m c =
    let a = c.args in
    let w = c.in_err-m.ensures in
    let p = err_from_is_err_and c.from_residual.result c.from_residual.ensures.1 in
    let same = given c.whole_at.result _ c.in_err-m.field-0.0 w.ok_part w.value in
    rw (p.1, p.2, same)
    (whole-number a.start a.end c.stem_end-to.result c.behind_minus-from.result a.start c.minus_at-negative.result None a.text.now
    c.if-end-start.false c.requires.1 c.stem_end-to.ensures c.minus_at-negative.ensures c.behind_minus-from.ensures (sym w.ok_part ∙ c.whole_at.ensures))

pub returns : goal.returns
returns c =
    let a = c.args in
    ap got c.suffixed_number.ensures
    ∙ whole-number a.start a.end c.stem_end-to.result c.behind_minus-from.result a.start c.minus_at-negative.result (Some c.in_ok-m.m) a.text.now
    c.if-end-start.false c.requires.1 c.stem_end-to.ensures c.minus_at-negative.ensures c.behind_minus-from.ensures
    (sym c.in_ok-m.ensures.ok_part ∙ c.whole_at.ensures)
