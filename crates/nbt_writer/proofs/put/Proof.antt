-- Right since the root, as records side by side, is written in the form that it has, and its bytes are the layout of the table's document.
-- Assumes nothing.
use borrow.Author.Rules.{rules}
use native.Mathlib.Omega.{arith}
use Rattle.nbt_writer.proofs.Documents.{root-room, put-room, put-done}
use Rattle.nbt_writer.proofs.put.Statement.{statement}
use Rattle.nbt_writer.proofs.put.Tie as tie

word-requires : tie.Need-word-end-requires
word-requires c κs =
    (root-room c.args.doc.now _ c.requires.formed.small c.requires.formed.table, omega arith)

put_all-requires : tie.Need-put_all-requires
put_all-requires c κs =
    put-room _ _ _ _ c.requires (λ k. omega (arith, c.shared_slice_known-1.given k)) c.between.ensures c.word-end.ensures c.requires.formed.table

returns : tie.Need-returns
returns c =
    λ i. put-done _ _ _ _ c.requires (λ k. omega (arith, c.shared_slice_known-1.given k)) c.between.ensures c.word-end.ensures i c.put_all.ensures

pub put_spec : {M : Type 1} → statement M
put_spec =
    tie.close
    (tie.spec
    word-requires
    (λ c κs. search rules)
    put_all-requires
    (λ c. search rules)
    returns)
