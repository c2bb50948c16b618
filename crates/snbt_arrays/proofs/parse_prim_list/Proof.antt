-- `parse_prim_list` meets its contract: 13 where the count has no room, else the array.
-- Assumes nothing.
use borrow.Author.Rules.{rules}
use borrow.Author.Tests.{leb-true}
use Prim.Native.Nat.{◌+◌}
use mathlib.Core.Path.{sym, ◌∙◌}
use lib.ListN.{length}
use Rattle.snbt_arrays.proofs.Gathers.{array-full}
use Rattle.snbt_arrays.proofs.parse_prim_list.Statement.{statement}
use Rattle.snbt_arrays.proofs.parse_prim_list.Tie as tie

pub parse_prim_list_spec : {M : Type 1} → statement M
parse_prim_list_spec =
    tie.close
    (tie.spec
    (λ c κs. search rules)
    (λ c κs.
    let a = c.args in
    (c.requires.0, c.requires.1, leb-true (a.at + 4) (length a.out.now) (sym c.has_room.ensures ∙ c.if-has_room.true)))
    (λ c. search rules)
    (λ c. c.put_array.ensures)
    (λ c.
    let a = c.args in
    (array-full a.text.now a.out.now a.width a.brace.0 a.start a.at c.has_room.ensures c.if-has_room.false, tt)))
