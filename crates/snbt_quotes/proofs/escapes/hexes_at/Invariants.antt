-- Each turn takes one digit more, and the digits left decide the answer.
use Rattle.std.proofs.Common.{◌≡◌, ◌+◌, ◌-◌, ◌≤◌, ◌<◌}
use Rattle.form.specs.Spans.{part}
use Rattle.snbt_form.specs.Lexing.{hexes}
use Rattle.snbt_quotes.proofs.Backslashes.{room}
use Rattle.snbt_quotes.proofs.escapes.hexes_at.Given as goal

abbrev pub invariant-loop-i : goal.invariant-loop-i
invariant-loop-i l = record {
  within : l.i ≤ l.end;
  small : l.v < room (l.at + 4 - l.i);
  left : hexes (l.at + 4 - l.i) l.v (part l.text l.i (l.end - l.i)) l.i ≡ hexes 4 0 (part l.text l.at (l.end - l.at)) l.at;
}
