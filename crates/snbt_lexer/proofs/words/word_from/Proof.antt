-- `word_from` meets its contract: from each place that the loop comes to, rule 11's walk gives the same token.
-- Assumes nothing.
use Prim.Native.Nat.{◌-◌, ◌≤◌}
use mathlib.Core.Path.{sym, ◌∙◌}
use native.Mathlib.Omega.{arith}
use borrow.Author.Rules.{rules}
use lib.ListN.{length, get_or}
use Rattle.snbt_tokens.specs.Answers.{stops_is}
use Rattle.snbt_lexer.specs.Answers.{scan_of}
use Rattle.snbt_lexer.specs.Runs.{Bounded}
use Rattle.snbt_lexer.proofs.Slurps.{Run, run_is, Going, going_start, going-run, going_on, going-stop, going_end, after_kept, run-kept}
use Rattle.snbt_lexer.proofs.words.word_from.Statement.{statement}
use Rattle.snbt_lexer.proofs.words.word_from.Tie as tie

abbrev invariant-loop : tie.invariant-loop-i
invariant-loop text start set i₀ st₀ i st = (i ≤ length text) × Bounded (scan_of st) i × Going (stops_is set) text start (scan_of st) i

abbrev decreases-loop : tie.decreases-loop-i
decreases-loop text start set i₀ st₀ i st = length text - i

-- the run from that place
run : (c : tie.After-run_end-j invariant-loop decreases-loop) → Run c.args.text.now c.loop-i.i c.run_end-j.result
run c = rw c.run_end-j.ensures (run_is c.args.text.now c.loop-i.i c.loop-i.invariant.0)

pub word_from_spec : {M : Type 1} → statement M
word_from_spec =
    tie.close
    (tie.spec
    invariant-loop
    decreases-loop
    (λ c. omega arith)
    (λ c. (omega arith, record { curly = omega arith; square = omega arith; end = omega arith; width = omega arith }, going_start _ _ _))
    (λ c κs. search rules)
    (λ c κs. let r = run c.before in (c.loop-i.invariant.1, r.low, omega (arith, r.high)))
    (λ c. let r = run c.before.before in omega (arith, r.high, c.if-i-j.true))
    (λ c.
    let r = run c.before.before in
    let l = c.loop-i in
    let a = c.args in
    let e = c.after_run-st.ensures in (
      r.high,
      rw e (run-kept _ (scan_of l.st) _ l.invariant.1 r.low),
      rw e (going-run (stops_is a.set) a.text.now a.start l.i _ (scan_of l.st) c.if-i-j.true r l.invariant.2),
    ))
    (λ c. omega arith)
    (λ c κs. search rules)
    (λ c κs. search rules)
    (λ c.
    let l = c.loop-i in
    let a = c.args in
    c.word_of.ensures
    ∙ going-stop (stops_is a.set) a.text.now a.start l.i (scan_of l.st) c.loop-i-test.true (sym c.ends.ensures ∙ c.if-ends.true) l.invariant.2)
    (λ c κs. (c.loop-i.invariant.1, omega arith))
    (λ c. omega arith)
    (λ c. omega arith)
    (λ c.
    let l = c.loop-i in
    let a = c.args in
    let e = c.after_byte-st.ensures in (
      omega arith,
      rw e (after_kept l.i (scan_of l.st) (get_or a.text.now l.i 0) l.invariant.1),
      rw e (going_on (stops_is a.set) a.text.now a.start l.i (scan_of l.st) c.loop-i-test.true (sym c.ends.ensures ∙ c.if-ends.false) l.invariant.2),
    ))
    (λ c κs. search rules)
    (λ c. let l = c.loop-i in c.word_of-2.ensures ∙ going_end _ _ _ l.i (scan_of l.st) c.loop-i-test.false l.invariant.2))
