-- `table_moves::good_lines` meets its contract: after n good lines the answer is what the others add to their words.
-- Assumes nothing.
use Rattle.std.proofs.Common.{◌≡◌, ◌+◌, ◌*◌, ◌≤◌, ◌<◌, ℕ, List, Bool, false, true, length, drop, sym, ap, subst, ◌∙◌, arith}
use native.Mathlib.Nat.{mul-add, mul-one}
use Rattle.form.specs.Moved.{Edition, words_in}
use Rattle.table_store.specs.Steps.{FirstLine}
use Rattle.table_stored.specs.Words.{edition_of}
use Rattle.table_moves.specs.Steps.{TakenIs}
use Rattle.table_moves.proofs.Taking.{sofar-over, sofar-next, line-width, all-taken, bad-taken}
use Rattle.table_moves.proofs.good_lines.Goals as goal

-- The line that stands next, known to be good or bad.
line-next : (e : Edition) (s : List ℕ) (n : ℕ) (good : Bool) {at words : ℕ} {r : Bool} → at ≡ (8 * words_in e + 1) * n → words ≡ words_in e
    → FirstLine words (drop at s) r → r ≡ good → FirstLine (words_in e) (drop ((8 * words_in e + 1) * n) s) good
line-next e s n good {at} place width first is =
    subst (λ x. FirstLine (words_in e) (drop x s) good) place (subst (λ x. FirstLine x (drop at s) good) width (subst (FirstLine _ _) is first))

pub returns-then-n-eq-RECORDS : goal.returns-then-n-eq-RECORDS
returns-then-n-eq-RECORDS c =
    let l = c.loop-at in
    let s = c.args.lines.now in
    sofar-over _ s l.n l.invariant.so_far c.if-n-eq-RECORDS.true (subst (λ x. x < length s) l.invariant.place c.loop-at-test.true)

pub returns-then-not-is_line : goal.returns-then-not-is_line
returns-then-not-is_line c =
    let l = c.loop-at in
    let s = c.args.lines.now in
    let bad = line-next (edition_of c.args.nine) s l.n false l.invariant.place c.words_in-words.ensures c.is_line.ensures c.if-not-is_line.true in
    subst (TakenIs c.args.nine s) (sym c.bad_line.ensures) (bad-taken c.args.nine s l.n l.invariant.so_far bad)

pub loop-at-preserved : goal.loop-at-preserved
loop-at-preserved c =
    let l = c.loop-at in
    let e = edition_of c.args.nine in
    let s = c.args.lines.now in
    let width = 8 * words_in e + 1 in
    let wide : c.line_in-line.result ≡ width = c.line_in-line.ensures ∙ line-width e in
    let good = line-next e s l.n true l.invariant.place c.words_in-words.ensures c.is_line.ensures c.if-not-is_line.false in
    record {
      place =
          ap (λ x. x + c.line_in-line.result) l.invariant.place
          ∙ ap (λ x. width * l.n + x) wide
          ∙ sym (mul-add width l.n 1 ∙ ap (λ x. width * l.n + x) (mul-one width));
      so_far = sofar-next _ _ l.n l.invariant.so_far good (omega (arith, l.invariant.so_far.few, c.if-n-eq-RECORDS.false));
    }

pub returns : goal.returns
returns c =
    let l = c.loop-at in
    let s = c.args.lines.now in
    all-taken (edition_of c.args.nine) s l.n l.invariant.so_far (subst (λ x. length s ≤ x) l.invariant.place c.loop-at-test.false)
