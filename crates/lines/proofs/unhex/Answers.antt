-- Right since each test that fails leaves no bytes, and where none does they are put.
-- Assumes nothing.
use Rattle.std.proofs.Common.{◌≡◌, ◌*◌, ◌/◌, true, take, sym, subst, arith}
use mathlib.Core.Path.{◌∙◌}
use Rattle.lines.specs.Digits.{all_digits}
use Rattle.lines.proofs.Digits.{hex-short, hex-odd, hex-full, hex-other, hex-some, unhexed-none, unhexed-some}
use Rattle.lines.proofs.unhex.Goals as goal
use Rattle.lines.proofs.unhex.Goals.{then-line-n-via-then-line-n, then-line-n-via-else-line-n+then-n-eq1, then-line-n-via-else-line-n+else-n-eq1+then-out-n, then-line-n-via-else-line-n+else-n-eq1+else-out-n+then-not-all_digits}

pub returns-then-line-n : goal.returns-then-line-n
returns-then-line-n c =
    unhexed-none _ (elim c.then-line-n.branch [
      | then-line-n-via-then-line-n w ↦ hex-short _ _ _ w.if-line-n.true
      | then-line-n-via-else-line-n+then-n-eq1 w ↦ hex-odd _ _ _ w.if-line-n.false w.if-n-eq1.true
      | then-line-n-via-else-line-n+else-n-eq1+then-out-n w ↦ hex-full _ _ _ w.if-line-n.false (omega arith) w.if-out-n.true
      | then-line-n-via-else-line-n+else-n-eq1+else-out-n+then-not-all_digits w ↦
          hex-other _ _ _ w.if-line-n.false (omega arith) w.if-out-n.false (sym w.all_digits.ensures ∙ w.if-not-all_digits.true)
    ])

pub put_bytes-requires : goal.put_bytes-requires
put_bytes-requires c =
    let whole : c.args.n ≡ 2 * (c.args.n / 2) = omega arith in
    let all : all_digits (take c.args.n c.args.line.now) ≡ true = sym c.all_digits.ensures ∙ c.if-not-all_digits.false in
    (omega arith, omega arith, subst (λ k. all_digits (take k c.args.line.now) ≡ true) whole all)

pub returns : goal.returns
returns c =
    unhexed-some _ _ _ _
    (hex-some _ _ _ c.if-line-n.false (omega arith) c.if-out-n.false (sym c.all_digits.ensures ∙ c.if-not-all_digits.false))
    c.put_bytes.ensures
