-- Right since from each place on the token is what it is as a whole: a run of plain bytes, an escape or a character takes it on.
-- Assumes nothing.
use Rattle.std.proofs.Common.{◌≡◌, refl, ℕ, ◌+◌, arith, ap, ◌∙◌, get_or}
use Rattle.std.proofs.lemmas.Result.{err_from_is_err_and}
use Rattle.std.specs.Option.{ok_or}
use Rattle.std.specs.Prelude.{Option, Some, None, Result, Ok, Err}
use Rattle.form.specs.declared.refusals.Refused.{Refused}
use Rattle.chars.specs.declared.Character.{Character}
use Rattle.snbt_text.proofs.Texts.{begins-le}
use Rattle.snbt_quotes.proofs.Walks.{Going, Stood, going_start, going-wide, going-closed, going-told, going-character, going-open, going-over}
use Rattle.snbt_quotes.proofs.quoted_at.Goals as goal

-- where nothing stands, the refusal is the one that was given for it
given : (x : Option Character) (l e : Refused) → x ≡ None → ◌≡◌ {A = Result Character Refused} (Err e) (ok_or x l) → e ≡ l
given None l e d h = cc
given (Some x) l e d h = cc

pub loop-i-init : goal.loop-i-init
loop-i-init c = record { within = omega arith; narrow = omega arith; quote = refl; going = going_start _ _ }

pub loop-i-preserved-then-i-text : goal.loop-i-preserved-then-i-text
loop-i-preserved-then-i-text c =
    let l = c.loop-i in
    let e = c.plain_end-end.ensures in
    record {
      within = omega arith;
      narrow = omega arith;
      quote = refl;
      going = going-over _ _ l.i _ l.width.0 _ e.0 e.1 e.2 c.wider-width.ensures l.invariant.going;
    }

pub returns-then-b-q : goal.returns-then-b-q
returns-then-b-q c =
    let a = c.args in
    let l = c.loop-i in
    let e = c.plain_end-end.ensures in
    let ran : Going a.text.now a.start c.plain_end-end.result c.wider-width.result.0 =
    going-over a.text.now a.start l.i _ l.width.0 _ e.0 e.1 e.2 c.wider-width.ensures l.invariant.going in
    going-closed a.text.now a.start c.plain_end-end.result c.wider-width.result.0 (omega arith) ran c.if-b-q.true _ c.wider-width-then-b-q.ensures

pub returns-in_err-escape_at : goal.returns-in_err-escape_at
returns-in_err-escape_at c =
    let a = c.args in
    let l = c.loop-i in
    let e = c.plain_end-end.ensures in
    let ran : Going a.text.now a.start c.plain_end-end.result c.wider-width.result.0 =
    going-over a.text.now a.start l.i _ l.width.0 _ e.0 e.1 e.2 c.wider-width.ensures l.invariant.going in
    let p = err_from_is_err_and c.from_residual.result c.from_residual.ensures.1 in
    rw (p.1, p.2)
    (going-told a.text.now a.start c.plain_end-end.result c.wider-width.result.0 (omega arith) ran c.if-b-q.false c.if-b-eq92.true (Err c.in_err-escape_at.field-0.0) c.in_err-escape_at.ensures)

pub returns-in_err-escape : goal.returns-in_err-escape
returns-in_err-escape c =
    let a = c.args in
    let l = c.loop-i in
    let e = c.plain_end-end.ensures in
    let ran : Going a.text.now a.start c.plain_end-end.result c.wider-width.result.0 =
    going-over a.text.now a.start l.i _ l.width.0 _ e.0 e.1 e.2 c.wider-width.ensures l.invariant.going in
    let p = err_from_is_err_and c.from_residual-in_err-escape.result c.from_residual-in_err-escape.ensures.1 in
    let h = c.in_ok-escape_at.ensures in
    let w = c.in_err-escape.ensures in
    let same : c.in_err-escape.field-0.0 ≡ c.left_open.result = given _ _ _ w.ok_part w.value in
    rw (p.1, p.2, same, c.left_open.ensures.0, c.left_open.ensures.1)
    (going-told a.text.now a.start c.plain_end-end.result c.wider-width.result.0 (omega arith) ran c.if-b-q.false c.if-b-eq92.true (Ok None) (rw w.ok_part at h))

pub overflow_add-i-then-b-eq92 : goal.overflow_add-i-then-b-eq92
overflow_add-i-then-b-eq92 c =
    let a = c.args in
    let l = c.loop-i in
    let e = c.plain_end-end.ensures in
    let ran : Going a.text.now a.start c.plain_end-end.result c.wider-width.result.0 =
    going-over a.text.now a.start l.i _ l.width.0 _ e.0 e.1 e.2 c.wider-width.ensures l.invariant.going in
    let h = c.in_ok-escape_at.ensures in
    let x = c.in_ok-escape.escape in
    let s : Stood a.text.now a.start c.plain_end-end.result c.wider-width.result.0 (Ok (Some x)) =
    going-told a.text.now a.start c.plain_end-end.result c.wider-width.result.0 (omega arith) ran c.if-b-q.false c.if-b-eq92.true (Ok (Some x)) (rw c.in_ok-escape.ensures.ok_part at h) in
    omega (arith, s.1)

pub wider-width-requires-then-b-eq92 : goal.wider-width-requires-then-b-eq92
wider-width-requires-then-b-eq92 c =
    let a = c.args in
    let l = c.loop-i in
    let e = c.plain_end-end.ensures in
    let ran : Going a.text.now a.start c.plain_end-end.result c.wider-width.result.0 =
    going-over a.text.now a.start l.i _ l.width.0 _ e.0 e.1 e.2 c.wider-width.ensures l.invariant.going in
    let h = c.in_ok-escape_at.ensures in
    let x = c.in_ok-escape.escape in
    let s : Stood a.text.now a.start c.plain_end-end.result c.wider-width.result.0 (Ok (Some x)) =
    going-told a.text.now a.start c.plain_end-end.result c.wider-width.result.0 (omega arith) ran c.if-b-q.false c.if-b-eq92.true (Ok (Some x)) (rw c.in_ok-escape.ensures.ok_part at h) in
    omega (arith, s.1)

pub loop-i-smaller-then-b-eq92 : goal.loop-i-smaller-then-b-eq92
loop-i-smaller-then-b-eq92 c =
    let a = c.args in
    let l = c.loop-i in
    let e = c.plain_end-end.ensures in
    let ran : Going a.text.now a.start c.plain_end-end.result c.wider-width.result.0 =
    going-over a.text.now a.start l.i _ l.width.0 _ e.0 e.1 e.2 c.wider-width.ensures l.invariant.going in
    let h = c.in_ok-escape_at.ensures in
    let x = c.in_ok-escape.escape in
    let s : Stood a.text.now a.start c.plain_end-end.result c.wider-width.result.0 (Ok (Some x)) =
    going-told a.text.now a.start c.plain_end-end.result c.wider-width.result.0 (omega arith) ran c.if-b-q.false c.if-b-eq92.true (Ok (Some x)) (rw c.in_ok-escape.ensures.ok_part at h) in
    omega (arith, s.0, s.1)

pub loop-i-preserved-then-b-eq92 : goal.loop-i-preserved-then-b-eq92
loop-i-preserved-then-b-eq92 c =
    let a = c.args in
    let l = c.loop-i in
    let e = c.plain_end-end.ensures in
    let ran : Going a.text.now a.start c.plain_end-end.result c.wider-width.result.0 =
    going-over a.text.now a.start l.i _ l.width.0 _ e.0 e.1 e.2 c.wider-width.ensures l.invariant.going in
    let h = c.in_ok-escape_at.ensures in
    let x = c.in_ok-escape.escape in
    let s : Stood a.text.now a.start c.plain_end-end.result c.wider-width.result.0 (Ok (Some x)) =
    going-told a.text.now a.start c.plain_end-end.result c.wider-width.result.0 (omega arith) ran c.if-b-q.false c.if-b-eq92.true (Ok (Some x)) (rw c.in_ok-escape.ensures.ok_part at h) in
    record { within = s.1; narrow = omega (arith, s.0, s.1); quote = refl; going = going-wide _ _ _ _ _ c.wider-width-then-b-eq92.ensures s.2 }

pub loop-i-preserved : goal.loop-i-preserved
loop-i-preserved c =
    let a = c.args in
    let l = c.loop-i in
    let e = c.plain_end-end.ensures in
    let ran : Going a.text.now a.start c.plain_end-end.result c.wider-width.result.0 =
    going-over a.text.now a.start l.i _ l.width.0 _ e.0 e.1 e.2 c.wider-width.ensures l.invariant.going in
    let step = going-character a.text.now a.start c.plain_end-end.result c.wider-width.result.0 (omega arith) ran c.if-b-q.false c.if-b-eq92.false in
    let one = begins-le (get_or a.text.now c.plain_end-end.result 0) in
    record {
      within = omega arith;
      narrow = omega (arith, c.begins.ensures, one);
      quote = refl;
      going = going-wide _ _ _ _ _ (c.wider-width-in-loop-i.ensures ∙ ap (λ (n : ℕ). c.wider-width.result.0 + n) c.begins.ensures) step;
    }

pub returns : goal.returns
returns c =
    rw (c.left_open-2.ensures.0, c.left_open-2.ensures.1)
    (going-open c.args.text.now c.args.start c.loop-i.i c.loop-i.width.0 (omega arith) c.loop-i.invariant.going)
