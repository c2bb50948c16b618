-- What is asked for at the start is the same from each place that the loop comes to.
use Rattle.std.proofs.Common.{◌≡◌, ◌-◌, length}
use Rattle.snbt_lexer.specs.Runs.{run_end}
use Rattle.snbt_lexer.proofs.characters.run_end.Given as goal

abbrev pub invariant-loop-i : goal.invariant-loop-i
invariant-loop-i l = run_end l.text l.at ≡ run_end l.text l.i

abbrev pub decreases-loop-i : goal.decreases-loop-i
decreases-loop-i l = length l.text - l.i
