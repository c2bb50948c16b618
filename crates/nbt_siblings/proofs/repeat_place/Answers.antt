-- The record that was found is one of the table's.
-- Assumes nothing.
use Rattle.std.proofs.Common.{length, arith, sym, ap}
use Rattle.nbt_siblings.proofs.Answers.{repeat-in}
use Rattle.nbt_siblings.proofs.repeat_place.Goals as goal

pub word-requires : goal.word-requires
word-requires c =
    let found = c.in_ok-k.ensures in
    (omega (arith, ap length found.table_unchanged, (c.requires.fit _ (repeat-in _ _ _ _ _ (sym found.value))).room), omega arith)
