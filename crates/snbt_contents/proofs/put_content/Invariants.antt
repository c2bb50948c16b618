-- What is written and the bytes left make the content, for which there is room.
use Rattle.std.proofs.Common.{◌-◌, ◌≤◌}
use Rattle.snbt_contents.proofs.Sofar.{Putting}
use Rattle.snbt_contents.proofs.put_content.Given as goal

abbrev pub invariant-loop-i : goal.invariant-loop-i
invariant-loop-i l = record {
  within : l.i ≤ l.end;
  putting : Putting l.text l.quoted l.start l.end l.initial.out l.at l.out l.to l.i;
}

abbrev pub decreases-loop-i : goal.decreases-loop-i
decreases-loop-i l = l.end - l.i
