-- What is counted and the bytes left make the content; it is at most twice as long as the bytes read, so the sum fits.
use Rattle.std.proofs.Common.{◌+◌, ◌-◌, ◌*◌, ◌≤◌}
use Rattle.snbt_contents.proofs.Sofar.{Counted}
use Rattle.snbt_contents.proofs.content_length.Given as goal

abbrev pub invariant-loop-i : goal.invariant-loop-i
invariant-loop-i l = record {
  within : l.i ≤ l.end;
  twice : l.n + 2 * l.start ≤ 2 * l.i;
  counted : Counted l.text l.quoted l.start l.end l.i l.n;
}

abbrev pub decreases-loop-i : goal.decreases-loop-i
decreases-loop-i l = l.end - l.i
