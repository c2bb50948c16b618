-- The value n is what the first i digits are, each at its weight in the word; the digits left have room.
-- Assumes nothing.
use Rattle.std.proofs.Common.{◌≡◌, ◌+◌, ◌-◌, ◌*◌, ◌^◌, ◌≤◌}
use Rattle.form.specs.Spans.{part}
use Rattle.form.specs.Stored.{hex_value}
use Rattle.table_store.proofs.word_at.Given as goal

abbrev pub invariant-loop-i : goal.invariant-loop-i
invariant-loop-i l = record {
  is : l.n ≡ hex_value (part l.lines l.at l.i) * 2 ^ (32 - 4 * l.i);
  room : l.n + 2 ^ (32 - 4 * l.i) ≤ 2 ^ 32;
}
