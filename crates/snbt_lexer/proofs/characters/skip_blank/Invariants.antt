-- What is asked for at the start is the same from each place that the loop comes to.
use Rattle.std.proofs.Common.{◌≡◌, ◌-◌, length}
use Rattle.snbt_form.specs.Lexing.{skip}
use Rattle.snbt_lexer.proofs.characters.skip_blank.Given as goal

abbrev pub invariant-loop-i : goal.invariant-loop-i
invariant-loop-i l = skip l.text l.at ≡ skip l.text l.i

abbrev pub decreases-loop-i : goal.decreases-loop-i
decreases-loop-i l = length l.text - l.i
