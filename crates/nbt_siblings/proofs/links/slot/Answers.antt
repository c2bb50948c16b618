use Rattle.std.proofs.Common.{◌*◌, get_or, arith}
use Rattle.nbt_siblings.proofs.Cases.{same_by}
use Rattle.nbt_siblings.proofs.Tables.{kind_is, slot_held, slot-held2, slot-plain}
use Rattle.nbt_siblings.proofs.links.slot.Goals as goal
use Rattle.nbt_siblings.proofs.links.slot.Goals.{in_default-via-then-word-lt9, in_default-via-else-word-lt9+else-this-lt11}

pub returns-in-9 : goal.returns-in-9
returns-in-9 c =
    let t = c.args.table.now in
    let i = c.args.i in
    let k = kind_is t i _ c.word.ensures in
    same_by (get_or t (9 * i) 0) 9 (λ q. slot_held t i q) (λ n. slot-held2 t i n (omega arith))

pub returns-in_default : goal.returns-in_default
returns-in_default c =
    let t = c.args.table.now in
    let i = c.args.i in
    let k = kind_is t i _ c.word.ensures in
    elim c.in_default.branch [
      | in_default-via-then-word-lt9 w ↦ slot-plain t i (λ q. omega arith) (λ q. omega arith)
      | in_default-via-else-word-lt9+else-this-lt11 w ↦ slot-plain t i (λ q. omega arith) (λ q. omega arith)
    ]
