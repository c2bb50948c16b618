-- `runs::run_from` meets its contract: a byte that is no digit ends the row, one digit more keeps it below 18 digits.
-- Assumes nothing.
use mathlib.Core.Path.{subst}
use Rattle.std.proofs.Common.{◌≡◌, ℕ, suc, ◌+◌, ◌-◌, ◌*◌, ◌^◌, ◌≤◌, ◌<◌, arith, get_or}
use Rattle.snbt_numbers.specs.Rows.{RunAt}
use Rattle.snbt_numbers.proofs.Rows.{is_digit_lem, outside-digits}
use Rattle.snbt_numbers.proofs.OnePass.{row_more, row-none, row-stops, row-whole, ten-more, ten-most}
use Rattle.snbt_numbers.proofs.runs.run_from.Goals as goal

-- the number with one digit more
grown : (n d at to i : ℕ) → at ≤ i → i < to → to ≤ at + 18 → n < 10 ^ (18 - (to - i)) → d ≤ 9 → n * 10 + d < 10 ^ (18 - (to - (i + 1)))
grown n d at to i h g r l e = subst (λ (k : ℕ). n * 10 + d < 10 ^ k) (place at to i h g r) (ten-more n d (18 - (to - i)) l e)
  where
    place : (at to i : ℕ) → at ≤ i → i < to → to ≤ at + 18 → suc (18 - (to - i)) ≡ 18 - (to - (i + 1))
    place at to i h g r = omega arith

pub loop-i-init : goal.loop-i-init
loop-i-init c = let w = row-none c.args.first c.args.at c.args.text.now in record { row = w.0; is = w.1; small = c.requires.3 }

pub returns-then-b-lt48 : goal.returns-then-b-lt48
returns-then-b-lt48 c =
    let a = c.args in
    let l = c.loop-i in
    let v = l.invariant in
    let e = row-stops a.text.now a.at a.to l.i l.auto.i c.loop-i-test.true c.requires.1 v.row (outside-digits _ c.then-b-lt48.either) in
    record { ends = e; low = l.auto.i; high = omega arith; row = v.row; is = v.is; small = v.small }

pub overflow_mul-n : goal.overflow_mul-n
overflow_mul-n c =
    let a = c.args in
    let l = c.loop-i in
    let d = get_or a.text.now l.i 0 - 48 in
    let g : l.n * 10 + d < 10 ^ (18 - (a.to - (l.i + 1))) = grown l.n d a.at a.to l.i l.auto.i c.loop-i-test.true c.requires.2 l.invariant.small (omega arith) in
    omega (arith, ten-most (l.n * 10 + d) (18 - (a.to - (l.i + 1))) g (omega arith))

pub overflow_add-n : goal.overflow_add-n
overflow_add-n c =
    let a = c.args in
    let l = c.loop-i in
    let d = get_or a.text.now l.i 0 - 48 in
    let g : l.n * 10 + d < 10 ^ (18 - (a.to - (l.i + 1))) = grown l.n d a.at a.to l.i l.auto.i c.loop-i-test.true c.requires.2 l.invariant.small (omega arith) in
    omega (arith, ten-most (l.n * 10 + d) (18 - (a.to - (l.i + 1))) g (omega arith))

pub loop-i-preserved : goal.loop-i-preserved
loop-i-preserved c =
    let a = c.args in
    let l = c.loop-i in
    let b = get_or a.text.now l.i 0 in
    let d = is_digit_lem b c.if-b-lt48.false c.if-b-gt57.false in
    let w = row_more a.first a.at l.i l.n a.text.now l.auto.i (omega arith) d l.invariant.row l.invariant.is in
    record { row = w.0; is = w.1; small = grown l.n (b - 48) a.at a.to l.i l.auto.i c.loop-i-test.true c.requires.2 l.invariant.small (omega arith) }

pub returns : goal.returns
returns c =
    let a = c.args in
    let l = c.loop-i in
    let v = l.invariant in
    let end : l.i ≡ a.to = omega arith in
    let e = row-whole a.text.now a.at a.to l.i l.auto.i end c.requires.1 v.row in
    subst (λ (k : ℕ). RunAt a.text.now a.first a.at a.to (record { value = l.n; end = k })) end
    (record { ends = e; low = l.auto.i; high = omega arith; row = v.row; is = v.is; small = v.small })
