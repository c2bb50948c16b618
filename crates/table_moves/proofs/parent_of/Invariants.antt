-- Each record behind q and before i has ended.
-- Assumes nothing.
use Rattle.std.proofs.Common.{ℕ, ◌≤◌, ◌<◌}
use Rattle.form.specs.Moved.{eight}
use Rattle.table_stored.specs.Words.{line_word}
use Rattle.table_moves.proofs.parent_of.Given as goal

abbrev pub invariant-loop-q : goal.invariant-loop-q
invariant-loop-q l = (l.q < l.i) × ((m : ℕ) → l.q < m → m < l.i → line_word eight l.lines m 7 ≤ l.i)

abbrev pub decreases-loop-q : goal.decreases-loop-q
decreases-loop-q l = l.q
