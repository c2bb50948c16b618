-- Each way through the code is a law of the definition.
use Rattle.std.proofs.Common.{◌≡◌, ℕ, List, sym, ◌∙◌, arith}
use Rattle.form.specs.Form.{Way, way_no}
use Rattle.form.specs.Spans.{part}
use Rattle.form.specs.Decoding.{Verdict, verdict_in}
use Rattle.form.specs.Table.{head_of}
use Rattle.nbt_writer.proofs.Characters.{place-within, place-name, place-string, place_none}
use Rattle.nbt_writer.proofs.bad_place.Goals as goal

-- what is told of the span of two words is told of the head's
told : (way : Way) (doc : List ℕ) {a b n m : ℕ} {v : Verdict} → v ≡ verdict_in way.from.strings (part doc a n) → a ≡ b → n ≡ m
    → verdict_in way.from.strings (part doc b m) ≡ v
told way doc h p q = sym (h ∙ λ i. verdict_in way.from.strings (part doc (p i) (q i)))

pub overflow_add-result : goal.overflow_add-result
overflow_add-result c =
    let way = way_no c.args.way in
    let bad = told way _ c.in-Err.ensures c.word-name.ensures c.word.ensures in
    omega (arith, c.word-name.ensures, place-within way _ _ _ _ c.requires.name bad)

pub returns-in-Err : goal.returns-in-Err
returns-in-Err c =
    let way = way_no c.args.way in
    let bad = told way _ c.in-Err.ensures c.word-name.ensures c.word.ensures in
    omega (arith, c.word-name.ensures, place-name way c.args.doc.now (head_of c.args.table.now c.args.n) bad)

pub overflow_add-result-in-Err-checked : goal.overflow_add-result-in-Err-checked
overflow_add-result-in-Err-checked c =
    let way = way_no c.args.way in
    let bad = told way _ c.in-Err-checked.ensures c.word-start.ensures c.word-2.ensures in
    omega (arith, c.word-start.ensures, place-within way _ _ _ _ c.requires.body bad)

pub returns-in-Err-checked : goal.returns-in-Err-checked
returns-in-Err-checked c =
    let way = way_no c.args.way in
    let good = told way _ c.in_default.ensures c.word-name.ensures c.word.ensures in
    let bad = told way _ c.in-Err-checked.ensures c.word-start.ensures c.word-2.ensures in
    omega (arith, c.word-start.ensures, place-string way c.args.doc.now (head_of c.args.table.now c.args.n) good bad)

pub returns : goal.returns
returns c =
    let way = way_no c.args.way in
    let good = told way _ c.in_default.ensures c.word-name.ensures c.word.ensures in
    place_none way c.args.doc.now (head_of c.args.table.now c.args.n) good
    (told way _ c.in_default-checked.ensures c.word-start.ensures c.word-2.ensures)
