-- The elements read so far stand in the output behind the count, and the definition from there on is the rest.
use Rattle.std.proofs.Common.{◌-◌, length}
use Rattle.snbt_tokens.specs.Answers.{last_is}
use Rattle.snbt_arrays.specs.Turns.{Gathering}
use Rattle.snbt_arrays.proofs.put_array.Given as goal

abbrev pub invariant-loop-index : goal.invariant-loop-index
invariant-loop-index l = Gathering l.text l.initial.out l.width l.brace.0 l.start l.at (last_is l.last) l.place l.used l.count l.out

abbrev pub decreases-loop-index : goal.decreases-loop-index
decreases-loop-index l = length l.text - l.place
