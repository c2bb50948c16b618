-- The first i digits stand in their places.
-- Assumes nothing.
use Rattle.std.proofs.Common.{◌≡◌, take}
use Rattle.form.specs.Spans.{over}
use Rattle.form.specs.Stored.{hex_digits}
use Rattle.table_store.proofs.put_word.Given as goal

abbrev pub invariant-loop-i : goal.invariant-loop-i
invariant-loop-i l = l.out ≡ over l.initial.out l.at (take l.i (hex_digits 8 l.word))
