-- Right since the loop walks from 0 on: to the end, or to a value that can't be read.
-- Assumes nothing.
use Prim.Native.Nat.{◌-◌, ◌≤◌}
use mathlib.Core.Logic.{⊎_elim}
use native.Mathlib.Omega.{arith}
use borrow.Author.Rules.{rules}
use lib.ListN.{length}
use Rattle.form.specs.Form.{form_no}
use Rattle.form.specs.Decoding.{one_of}
use Rattle.form.proofs.Picks.{lt-or}
use Rattle.mutf8.specs.Runs.{Walked, none}
use Rattle.mutf8.proofs.Walks.{walked_step, all-walked, halted-at}
use Rattle.mutf8.proofs.judge.Statement.{statement}
use Rattle.mutf8.proofs.judge.Tie as tie

abbrev Inv : tie.invariant-loop-i
Inv s form i₀ reach₀ i reach = (i ≤ length s) × Walked (one_of (form_no form).strings) s 0 i

abbrev μ : tie.decreases-loop-i
μ s form i₀ reach₀ i reach = length s - i

-- the blocks of a turn, and the turn
abbrev pass_of : tie.After-steps-r Inv μ → tie.After-pass-j Inv μ
pass_of c = c.before.before.before

abbrev turn-of : tie.After-steps-r Inv μ → tie.At-loop-i Inv μ
turn-of c = (pass_of c).before.before

-- a turn walks on over the blocks and over the values behind them
walked : (c : tie.After-steps-r Inv μ) → let a = (turn-of c).before.before.args in Walked (one_of (form_no a.form).strings) a.s.now 0 c.steps-r.result
walked c = walked_step (form_no (turn-of c).before.before.args.form).strings (turn-of c).loop-i.invariant.1 (pass_of c).pass-j.ensures c.steps-r.ensures

pub judge_spec : {M : Type 1} → statement M
judge_spec =
    tie.close
    (tie.spec
    Inv
    μ
    (λ c. (omega arith, none))
    (λ c κs. c.before.loop-i.invariant.0)
    (λ c κs. search rules)
    (λ c κs. (c.before.pass-j.ensures.within, c.reach_after-reach.ensures))
    (λ c κs. (c.before.before.pass-j.ensures.within, c.ahead-stop.ensures.1))
    (λ c. let q = c.before in
    halted-at (form_no (turn-of q).before.before.args.form).strings (omega (arith, q.before.ahead-stop.ensures.1, c.if-r-stop.true)) (q.steps-r.ensures.halted c.if-r-stop.true) (walked q))
    -- where blocks went no further, values do
    (λ c. let q = c.before in let p = (pass_of q).pass-j in let r = q.steps-r.ensures in
    ⊎_elim (λ h. omega (arith, q.before.ahead-stop.ensures.2 h, p.ensures.on, r.within)) (λ h. omega (arith, p.ensures.on, r.on, r.within))
    (lt-or p.result (length (turn-of q).before.before.args.s.now)))
    (λ c. (c.before.steps-r.ensures.within, walked c.before))
    (λ c. all-walked (form_no c.before.before.before.args.form).strings c.loop-i-test.false c.before.loop-i.invariant.1))
