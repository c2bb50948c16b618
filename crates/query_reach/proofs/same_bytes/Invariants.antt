-- Whether the parts are the same is whether what is left of them is.
-- Assumes nothing.
use Rattle.std.proofs.Common.{◌≡◌, ◌+◌, ◌-◌}
use Rattle.form.specs.Spans.{part, same}
use Rattle.query_reach.proofs.same_bytes.Given as goal

abbrev pub invariant-loop-i : goal.invariant-loop-i
invariant-loop-i l = same (part l.a l.x l.n) (part l.b l.y l.n) ≡ same (part l.a (l.x + l.i) (l.n - l.i)) (part l.b (l.y + l.i) (l.n - l.i))
