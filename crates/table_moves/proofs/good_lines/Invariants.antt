-- After n good lines the answer is what the others add to their words; the measure is what is left of the bytes.
-- Assumes nothing.
use Rattle.std.proofs.Common.{◌≡◌, ◌+◌, ◌-◌, ◌*◌, length}
use Rattle.form.specs.Moved.{words_in}
use Rattle.table_stored.specs.Words.{edition_of}
use Rattle.table_moves.proofs.Taking.{Sofar}
use Rattle.table_moves.proofs.good_lines.Given as goal

abbrev pub invariant-loop-at : goal.invariant-loop-at
invariant-loop-at l = record {
  place : l.at ≡ (8 * words_in (edition_of l.nine) + 1) * l.n;
  so_far : Sofar (words_in (edition_of l.nine)) l.lines l.n;
}

abbrev pub decreases-loop-at : goal.decreases-loop-at
decreases-loop-at l = length l.lines - l.at
