-- Right since the root, as records side by side, is judged, then written where there is room.
-- Assumes nothing.
use borrow.Author.Rules.{rules}
use native.Mathlib.Omega.{arith}
use mathlib.Core.Path.{refl, ap}
use lib.ListN.{length}
use Rattle.form.specs.Form.{way_no}
use Rattle.nbt_writer.proofs.Documents.{root-room, root, table-placed, table-no, refused-gives, table-room, table-full, table_done}
use Rattle.nbt_writer.proofs.written.Statement.{statement}
use Rattle.nbt_writer.proofs.written.Tie as tie

word-requires : tie.Need-word-end-requires
word-requires c κs =
    (root-room c.args.doc.now _ c.requires.small c.requires.table, omega arith)

judged-requires : tie.Need-judged-requires
judged-requires c κs =
    root _ _ c.requires.small c.requires.table refl c.word-end.ensures

returns : tie.Need-returns-then-out-bytes
returns c = (
  λ i. table-full _ _ c.requires.small i (way_no c.args.way) c.args.out.now c.word-end.ensures c.judged.result c.judged.ensures.0
      c.in-Ok.is (λ k. omega (arith, c.shared_slice_known-1.given k)) c.if-out-bytes.true,
  c.judged.ensures.1,
)

put_all-requires : tie.Need-put_all-requires
put_all-requires c κs =
    table-room _ _ c.requires.small c.requires.table (way_no c.args.way) c.args.out.now c.word-end.ensures c.judged.result c.judged.ensures.0
    c.in-Ok.is c.judged.ensures.1 c.if-out-bytes.false

refused-requires : tie.Need-refused-requires
refused-requires c κs =
    table-placed _ _ c.requires.small c.requires.table (way_no c.args.way) c.args.out.now c.word-end.ensures c.judged.result c.judged.ensures.0
    c.in-Err.is c.judged.ensures.1

returns-2 : tie.Need-returns-in-Err
returns-2 c = (
  λ i. refused-gives _ _ _ _ _
      (table-no _ _ c.requires.small i (way_no c.args.way) c.args.out.now c.word-end.ensures
      c.judged.result c.judged.ensures.0 c.in-Err.is)
      c.judged.ensures.1 c.refused.ensures,
  c.judged.ensures.1,
)

returns-3 : tie.Need-returns-else-out-bytes
returns-3 c = (
  λ i. table_done _ _ c.requires.small i (way_no c.args.way) c.args.out.now c.word-end.ensures c.judged.result c.judged.ensures.0
      c.in-Ok.is (λ k. omega (arith, c.shared_slice_known-1.given k)) c.judged.ensures.1 c.if-out-bytes.false c.put_all.ensures,
  c.judged.ensures.1,
)

pub written_spec : {M : Type 1} → statement M
written_spec =
    tie.close
    (tie.spec
    word-requires
    judged-requires
    (λ c. search rules)
    refused-requires
    (λ c. search rules)
    (λ c. ap length (returns c).1)
    returns
    put_all-requires
    (λ c. ap length (returns-2 c).1)
    returns-2
    (λ c. ap length (returns-3 c).1)
    (λ c. search rules)
    returns-3)
