-- From each place on the token is what it is as a whole.
use Rattle.std.proofs.Common.{◌≡◌, ◌-◌, ◌≤◌, length, get_or}
use Rattle.snbt_quotes.proofs.Walks.{Going}
use Rattle.snbt_quotes.proofs.quoted_at.Given as goal

abbrev pub invariant-loop-i : goal.invariant-loop-i
invariant-loop-i l = record {
  within : l.i ≤ length l.text;
  narrow : l.width.0 ≤ l.i;
  quote : l.q ≡ get_or l.text l.start 0;
  going : Going l.text l.start l.i l.width.0;
}

abbrev pub decreases-loop-i : goal.decreases-loop-i
decreases-loop-i l = length l.text - l.i
