-- The largest value so far is below 16 exactly if each byte so far is a digit.
-- Assumes nothing.
use Rattle.std.proofs.Common.{◌≡◌, ltb}
use Rattle.form.specs.Spans.{part}
use Rattle.form.specs.Stored.{all_digits}
use Rattle.table_store.proofs.digits_at.Given as goal

abbrev pub invariant-loop-b : goal.invariant-loop-b
invariant-loop-b l = ltb l.largest 16 ≡ all_digits (part l.lines l.at l.b-index)
