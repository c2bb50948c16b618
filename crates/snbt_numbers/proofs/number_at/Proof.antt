-- `number_at` meets its contract: digits to the end are an int, digits and a suffix what the suffix says; `tail_number` answers for other short tokens, `any_number` for long ones.
-- Assumes nothing.
use borrow.Author.Rules.{rules}
use mathlib.Core.Path.{sym, ap, ◌∙◌, subst}
use Prim.Native.Nat.{ℕ, ◌+◌, ◌-◌, ◌≤◌}
use native.Mathlib.Nat.{le_refl}
use native.Mathlib.Omega.{arith}
use lib.IntN.{ℤ}
use mir.Syntax.{w64}
use mir.ValLaws.{to_z-of_z}
use Rattle.form.specs.Answer.{got}
use Rattle.snbt_floats.proofs.Operations.{ten-pos}
use Rattle.snbt_form.specs.Numbers.{int}
use Rattle.snbt_numbers.specs.Rows.{RunAt, HeadAt}
use Rattle.snbt_numbers.proofs.OnePass.{Begins, none-no-point, from_le, run_small, short-int, short-suffixed}
use Rattle.snbt_numbers.proofs.number_at.Statement.{statement}
use Rattle.snbt_numbers.proofs.number_at.Tie as tie

-- the digits begin in the token
begins : (c : tie.After-behind_minus-from) → let a = c.args in Begins a.text.now a.start a.end c.behind_minus-from.result c.minus_at-negative.result
begins c = record { order = c.requires.0; within = c.requires.1; sign = c.minus_at-negative.ensures; first = c.behind_minus-from.ensures }

-- the sign and the first digits
heads : (c : tie.After-run_from-row) → let a = c.args in
    HeadAt a.text.now a.start a.end c.minus_at-negative.result c.run_from-row.result.value c.run_from-row.result.end
heads c =
    let a = c.args in
    let e = c.behind_minus-from.ensures in
    record {
      sign = c.minus_at-negative.ensures;
      room = subst (λ (n : ℕ). a.end ≤ n + 18) e (omega (arith, c.if-end-from-gt18.false, (from_le (begins c.before.before)).1));
      run = subst (λ (n : ℕ). RunAt a.text.now 0 n a.end c.run_from-row.result) e c.run_from-row.ensures;
    }

pub number_at_spec : {M : Type 1} → statement M
number_at_spec =
    tie.close
    (tie.spec
    (λ c κs. search rules)
    (λ c κs. search rules)
    (λ c. (from_le (begins c)).1)
    (λ c κs. (le_refl c.args.start, c.requires.0, c.requires.1, none-no-point c.args.start c.args.text.now))
    (λ c. search rules)
    (λ c κs.
    let within = (from_le (begins c.before)).1 in
    (within, c.requires.1, omega (arith, c.if-end-from-gt18.false, within), ten-pos (18 - (c.args.end - c.behind_minus-from.result))))
    (λ c κs. (c.requires.1, heads c.before))
    (λ c. search rules)
    (λ c κs. run_small (begins c.before.before.before.before) c.run_from-row.ensures)
    (λ c.
    ap (λ (n : ℤ). got (int n)) (to_z-of_z w64 c.signed_i64.result (record { sfits = c.signed_i64.type_inv }) ∙ c.signed_i64.ensures)
    ∙ short-int (begins c.before.before.before.before.before) c.run_from-row.ensures c.if-to-from.false c.if-to-end.true)
    (λ c. search rules)
    (λ c. search rules)
    (λ c κs. search rules)
    (λ c κs.
    run_small (begins c.before.before.before.before.before.before.before.before) c.run_from-row.ensures)
    (λ c.
    ap got c.suffixed_number.ensures
    ∙ short-suffixed (begins c.before.before.before.before.before.before.before.before.before) c.run_from-row.ensures c.if-to-from.false c.if-to-end-2.true
    (sym c.is_suffix.ensures ∙ c.if-is_suffix.true))
    (λ c κs. (c.requires.1, heads c.before.before.before))
    (λ c. search rules))
