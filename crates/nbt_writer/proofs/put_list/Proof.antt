-- Right since the code puts the id, then the count, as the definition has them.
-- Assumes nothing.
use borrow.Author.Rules.{rules}
use native.Mathlib.Omega.{arith}
use mathlib.Core.Path.{refl}
use Prim.Native.Nat.{◌+◌}
use Rattle.form.specs.Form.{big, way_no}
use Rattle.form.proofs.Digits.{digits-length}
use Rattle.form.specs.Table.{head_of}
use Rattle.nbt_judging.specs.Pieces.{list_bytes}
use Rattle.nbt_writer.proofs.Puts.{puts-number, puts_then}
use Rattle.nbt_writer.proofs.put_list.Statement.{statement}
use Rattle.nbt_writer.proofs.put_list.Tie as tie

returns : tie.Need-returns
unfolding list_bytes
returns c =
    let a = c.args in
    let h = head_of a.table.now a.n in
    let one = puts-number big 1 h.list_kind (a.at + 1) refl c.word.ensures c.put_number.ensures in
    let two = puts-number (way_no a.way).to.order 4 h.count (a.at + 5) (omega arith) c.word-2.ensures c.put_count.ensures in
    puts_then one (omega (arith, digits-length 1 h.list_kind)) two

pub put_list_spec : {M : Type 1} → statement M
put_list_spec =
    tie.close
    (tie.spec
    (λ c κs. search rules)
    (λ c κs. search rules)
    (λ c. search rules)
    (λ c κs. search rules)
    (λ c κs. search rules)
    (λ c. search rules)
    (λ c. search rules)
    returns)
