-- Right since the code puts an entry's id, then its name behind its length, as the definition has them; where both forms are alike the name
-- is written as it stands.
-- Assumes nothing.
use borrow.Author.Rules.{rules}
use native.Mathlib.Omega.{arith}
use mathlib.Core.List.{List}
use mathlib.Core.Path.{◌≡◌, refl, ap, ◌∙◌}
use Prim.Native.Nat.{ℕ, ◌+◌, ◌≤◌}
use lib.ListN.{length, length-append}
use Rattle.form.specs.Form.{Way, big, way_no}
use Rattle.form.specs.Numbers.{bytes_of}
use Rattle.form.specs.Table.{Head, head_of}
use Rattle.form.proofs.Digits.{digits-length}
use Rattle.recode.specs.Steps.{Puts}
use Rattle.recode.proofs.Outputs.{puts_none}
use Rattle.nbt_judging.specs.Pieces.{text_bytes, name_bytes, span_bytes}
use Rattle.nbt_judging.proofs.Bytes.{name-element, name-entry}
use Rattle.nbt_writer.specs.Steps.{same_bytes}
use Rattle.nbt_writer.proofs.Puts.{puts-number, puts-same, puts_then}
use Rattle.nbt_writer.proofs.Spans.{alike-rule, span-text, text_same}
use Rattle.nbt_writer.proofs.put_name.Statement.{statement}
use Rattle.nbt_writer.proofs.put_name.Tie as tie

-- The record's words.
abbrev head-of : tie.Start → Head
head-of s = head_of s.args.table.now s.args.n

-- The name's bytes.
abbrev name_of : tie.Start → List ℕ
name_of s = text_bytes (way_no s.args.way) s.args.doc.now (head_of s.args.table.now s.args.n).name (head_of s.args.table.now s.args.n).name_length

-- There is room for the id and for them.
room : (c : tie.Else-list) → c.args.at + (1 + length (name_of c.before.before.before.before)) ≤ length c.args.out.now
room c =
    let h = head-of c.before.before.before.before in
    let all = name-entry (way_no c.args.way) c.args.doc.now h c.args.list c.if-list.false in
    omega (arith, c.requires.2, ap length all, length-append (bytes_of 1 h.kind) (name_of c.before.before.before.before), digits-length 1 h.kind)

-- A definition's bytes, of the span that the code reads.
abbrev read : (Way → List ℕ → ℕ → ℕ → ℕ → ℕ → List ℕ) → tie.After-word-size → List ℕ
read bytes c = bytes (way_no c.args.way) c.args.doc.now 8 0 c.word-start.result c.word-size.result

-- That span is the name's.
named : (c : tie.After-word-size) → text_bytes (way_no c.args.way) c.args.doc.now c.word-start.result c.word-size.result ≡ name_of c.before.before.before.before.before.before
named c = λ i. text_bytes (way_no c.args.way) c.args.doc.now (c.word-start.ensures i) (c.word-size.ensures i)

-- It lies in the document.
within : (c : tie.After-word-size) → c.word-start.result + c.word-size.result ≤ length c.args.doc.now
within c = omega (arith, c.requires.0.name, c.word-start.ensures, c.word-size.ensures)

-- So the other form has it as the definition says.
turned : (c : tie.After-word-size) → read span_bytes c ≡ name_of c.before.before.before.before.before.before
turned c = span-text (way_no c.args.way) c.args.doc.now 8 0 c.word-start.result c.word-size.result refl ∙ named c

-- Where both forms are alike it is written as it stands.
same : (c : tie.Then-stays) → let size = c.before.before.before.before.before.before.before in read same_bytes size ≡ name_of size.before.before.before.before.before.before
same c =
    let alike = alike-rule (way_no c.args.way) c.stays.ensures c.if-stays.true in
    let size = c.before.before.before.before.before.before.before in
    text_same (way_no c.args.way) c.args.doc.now 8 0 c.word-start.result c.word-size.result alike (within size) refl ∙ named size

-- The id and the name make what stands before the payload.
joined : (c : tie.After-put_number) {o : List ℕ} {r : ℕ} →
    Puts (name_of c.before.before.before.before.before.before.before.before.before) c.put_number.new.d (c.args.at + 1) o r
    → Puts (name_bytes (way_no c.args.way) c.args.doc.now c.args.list (head_of c.args.table.now c.args.n)) c.args.out.now c.args.at o r
joined c name =
    let h = head-of c.before.before.before.before.before.before.before.before.before in
    let at = c.args.at in
    let fits : at + length (bytes_of 1 h.kind) ≤ length c.args.out.now = omega (arith, room c.before.before.before.before.before, digits-length 1 h.kind) in
    let id = puts-number big 1 h.kind (at + 1) refl c.word.ensures c.put_number.ensures in
    rw (name-entry (way_no c.args.way) c.args.doc.now h c.args.list c.if-list.false) (puts_then id fits name)

returns : tie.Need-returns-then-list
returns c = rw (name-element (way_no c.args.way) c.args.doc.now (head_of c.args.table.now c.args.n) c.args.list c.if-list.true) (puts_none _ _)

put_number-requires : tie.Need-put_number-requires
put_number-requires c κs =
    (omega arith, omega (arith, room c.before.before.before.before))

-- ---- both forms are alike

add-put_same : tie.Need-overflow_add-at
add-put_same c =
    omega (arith, room c.before.before.before.before.before.before.before.before.before.before, c.well_formed)

put_same-requires : tie.Need-put_same-requires
put_same-requires c κs =
    let fits = room c.before.before.before.before.before.before.before.before.before.before in
    (within c.before.before.before.before.before.before.before.before, omega (arith, fits, ap length (same c.before), c.put_number.auto.d))

returns-2 : tie.Need-returns-then-stays
returns-2 c =
    joined c.before.before.before.before.before.before.before.before (puts-same (same c.before.before.before.before) c.put_same.ensures)

-- ---- the other form has it otherwise

add-put_turned : tie.Need-overflow_add-at-2
add-put_turned c =
    omega (arith, room c.before.before.before.before.before.before.before.before.before.before, c.well_formed)

put_turned-requires : tie.Need-put_turned-requires
put_turned-requires c κs = (
  within c.before.before.before.before.before.before.before.before,
  omega (arith, c.requires.1, c.word-size.ensures),
  omega (arith, room c.before.before.before.before.before.before.before.before.before.before, ap length (turned c.before.before.before.before.before.before.before.before), c.put_number.auto.d),
)

returns-3 : tie.Need-returns
returns-3 c =
    joined c.before.before.before.before.before.before.before.before (puts-same (turned c.before.before.before.before.before.before.before.before.before.before.before) c.put_turned.ensures)

pub put_name_spec : {M : Type 1} → statement M
put_name_spec =
    tie.close
    (tie.spec
    returns
    (λ c κs. search rules)
    (λ c κs. search rules)
    (λ c κs. search rules)
    put_number-requires
    (λ c κs. search rules)
    add-put_same
    put_same-requires
    (λ c. search rules)
    returns-2
    add-put_turned
    put_turned-requires
    (λ c. search rules)
    returns-3)
