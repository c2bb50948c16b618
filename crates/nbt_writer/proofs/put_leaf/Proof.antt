-- Right since the span that the code reads is the payload's, and where both forms are alike it is written as it stands.
-- Assumes nothing.
use borrow.Author.Rules.{rules}
use native.Mathlib.Omega.{arith}
use mathlib.Core.List.{List}
use mathlib.Core.Path.{◌≡◌, ap, ◌∙◌}
use Prim.Native.Nat.{ℕ, ◌+◌, ◌≤◌}
use lib.ListN.{length}
use Rattle.form.specs.Form.{Way, way_no}
use Rattle.form.specs.Table.{head_of}
use Rattle.nbt_judging.specs.Pieces.{span_bytes, leaf_bytes}
use Rattle.nbt_writer.specs.Steps.{same_bytes}
use Rattle.nbt_writer.proofs.Puts.{puts-same}
use Rattle.nbt_writer.proofs.Spans.{alike-order, alike-rule, span_same}
use Rattle.nbt_writer.proofs.put_leaf.Statement.{statement}
use Rattle.nbt_writer.proofs.put_leaf.Tie as tie

-- The bytes that are due.
abbrev due : tie.Start → List ℕ
due s = leaf_bytes (way_no s.args.way) s.args.doc.now (head_of s.args.table.now s.args.n)

-- A definition's bytes, of the words that the code reads.
abbrev read : (Way → List ℕ → ℕ → ℕ → ℕ → ℕ → List ℕ) → tie.After-word-count → List ℕ
read bytes c = bytes (way_no c.args.way) c.args.doc.now c.word-kind.result c.word-count.result c.word-start.result c.word-size.result

-- The span that the code reads lies in the document.
within : (c : tie.After-word-count) → c.word-start.result + c.word-size.result ≤ length c.args.doc.now
within c = omega (arith, c.requires.0.body, c.word-start.ensures, c.word-size.ensures)

-- It is the payload's.
turned : (c : tie.After-word-count) → read span_bytes c ≡ due c.before.before.before.before.before.before.before
turned c =
    λ i. span_bytes (way_no c.args.way) c.args.doc.now (c.word-kind.ensures i) (c.word-count.ensures i) (c.word-start.ensures i) (c.word-size.ensures i)

-- Where both forms are alike it is written as it stands.
same : (c : tie.Then-stays) → let words = c.before.before in read same_bytes words ≡ due c.before.before.before.before.before.before.before.before.before
same c =
    let is = c.stays.ensures in
    let alike = c.if-stays.true in
    span_same (way_no c.args.way) c.args.doc.now c.word-kind.result c.word-count.result c.word-start.result c.word-size.result
    (alike-rule (way_no c.args.way) is alike) (within c.before.before) (alike-order (way_no c.args.way) is alike) ∙ turned c.before.before

put_same-requires : tie.Need-put_same-requires
put_same-requires c κs =
    (within c.before.before.before, omega (arith, c.requires.2, ap length (same c.before)))

returns : tie.Need-returns-then-stays
returns c =
    puts-same (same c.before.before.before.before) c.put_same.ensures

put_turned-requires : tie.Need-put_turned-requires
put_turned-requires c κs =
    (within c.before.before.before, omega (arith, c.requires.1, c.word-size.ensures), omega (arith, c.requires.2, ap length (turned c.before.before.before)))

returns-2 : tie.Need-returns
returns-2 c =
    puts-same (turned c.before.before.before.before.before.before) c.put_turned.ensures

pub put_leaf_spec : {M : Type 1} → statement M
put_leaf_spec =
    tie.close
    (tie.spec
    (λ c κs. search rules)
    (λ c κs. search rules)
    (λ c κs. search rules)
    (λ c κs. search rules)
    (λ c κs. search rules)
    put_same-requires
    (λ c. search rules)
    returns
    put_turned-requires
    (λ c. search rules)
    returns-2)
