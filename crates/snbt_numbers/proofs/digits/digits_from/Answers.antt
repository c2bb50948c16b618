-- `digits::digits_from` meets its contract: a byte that is no digit, one digit more, or the end.
-- Assumes nothing.
use Rattle.std.proofs.Common.{◌+◌, arith, ap, sym, ◌∙◌, get_or}
use Rattle.std.proofs.Math.Seq.{slice}
use Rattle.snbt_numbers.specs.Rows.{digits_of}
use Rattle.snbt_numbers.proofs.Slices.{slice-none, slice_first}
use Rattle.snbt_numbers.proofs.Rows.{is_digit_lem, outside-digits, digits_more, digits-broken, digits-end}
use Rattle.snbt_numbers.proofs.digits.digits_from.Goals as goal

pub returns-then-b-lt48 : goal.returns-then-b-lt48
returns-then-b-lt48 c =
    let a = c.args in
    let l = c.loop-i in
    digits-broken l.n (get_or a.text.now l.i 0) (slice (l.i + 1) a.to a.text.now) (outside-digits _ c.then-b-lt48.either)
    ∙ ap (digits_of l.n) (sym (slice_first l.i a.to a.text.now c.loop-i-test.true c.requires.2)) ∙ l.invariant.same

pub loop-i-preserved : goal.loop-i-preserved
loop-i-preserved c =
    let a = c.args in
    let l = c.loop-i in
    let b = get_or a.text.now l.i 0 in
    record {
      small = omega arith;
      same =
          digits_more l.n c.next-n.result b (slice (l.i + 1) a.to a.text.now) (is_digit_lem b c.if-b-lt48.false c.if-b-gt57.false) c.next-n.ensures
          ∙ ap (digits_of l.n) (sym (slice_first l.i a.to a.text.now c.loop-i-test.true c.requires.2)) ∙ l.invariant.same;
    }

pub returns : goal.returns
returns c =
    let a = c.args in
    let l = c.loop-i in
    digits-end l.n l.invariant.small ∙ ap (digits_of l.n) (sym (slice-none l.i a.to a.text.now c.loop-i-test.false)) ∙ l.invariant.same
