-- `query_reach::same_bytes` meets its contract: the first bytes of what is left differ, or are taken off.
-- Assumes nothing.
use Rattle.std.proofs.Common.{sym, ap₂, ◌∙◌, arith}
use Rattle.form.specs.Spans.{same}
use Rattle.form.proofs.Spans.{same-nil}
use Rattle.query_reach.proofs.Runs.{part_none, part-all}
use Rattle.query_reach.proofs.Levels.{same_more, same-less}
use Rattle.query_reach.proofs.same_bytes.Goals as goal

pub loop-i-init : goal.loop-i-init
loop-i-init c =
    let a = c.args in
    sym (ap₂ same (part-all a.a.now a.x a.n) (part-all a.b.now a.y a.n))

pub returns-then-a-x : goal.returns-then-a-x
returns-then-a-x c =
    sym (c.loop-i.invariant ∙ same-less _ _ _ _ _ _ c.loop-i-test.true c.requires.0 c.requires.1 c.if-a-x.true)

pub loop-i-preserved : goal.loop-i-preserved
loop-i-preserved c = c.loop-i.invariant ∙ same_more _ _ _ _ _ _ c.loop-i-test.true c.requires.0 c.requires.1 c.if-a-x.false

pub returns : goal.returns
returns c =
    let a = c.args in
    let i = c.loop-i.i in
    let none = ap₂ same (part_none a.a.now a.x i a.n (omega arith)) (part_none a.b.now a.y i a.n (omega arith)) in
    sym (c.loop-i.invariant ∙ none ∙ same-nil)
