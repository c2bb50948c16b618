-- Right since the code puts a string behind the length that it has as it is written, and numbers behind an array's count, as the definition
-- has them.
-- Assumes nothing.
use borrow.Author.Rules.{rules}
use native.Mathlib.Omega.{arith}
use mathlib.Core.List.{List, ◌++◌}
use mathlib.Core.Path.{◌≡◌, ap}
use Prim.Native.Nat.{ℕ, ◌+◌, ◌≤◌}
use lib.ListN.{length, length-append}
use Rattle.form.specs.Form.{way_no}
use Rattle.form.specs.Spans.{part}
use Rattle.form.specs.Turned.{recoded}
use Rattle.recode.specs.Steps.{numbers}
use Rattle.nbt_judging.specs.Pieces.{element_width, span_bytes}
use Rattle.nbt_judging.proofs.Bytes.{width_some}
use Rattle.nbt_writer.specs.Steps.{length_bytes}
use Rattle.nbt_writer.proofs.Laid.{width-most}
use Rattle.nbt_writer.proofs.Puts.{puts-same, puts_then}
use Rattle.nbt_writer.proofs.Spans.{span-string, span-numbers}
use Rattle.nbt_writer.proofs.put_turned.Statement.{statement}
use Rattle.nbt_writer.proofs.put_turned.Tie as tie

-- What stands before a span of n bytes.
abbrev length-of : tie.Start → ℕ → List ℕ
length-of s n = length_bytes (way_no s.args.way) s.args.kind n s.args.count

-- The span as it stands.
abbrev part_of : tie.Start → List ℕ
part_of s = part s.args.doc.now s.args.start s.args.size

-- The bytes that are due.
abbrev due : tie.Start → List ℕ
due s = span_bytes (way_no s.args.way) s.args.doc.now s.args.kind s.args.count s.args.start s.args.size

-- There is room for the two parts of them.
room : (s : tie.Start) (front rest : List ℕ) → due s ≡ front ++ rest → s.args.at + (length front + length rest) ≤ length s.args.out.now
room s front rest e = omega (arith, s.requires.2, ap length e, length-append front rest)

-- ---- a string

-- The string as it is written.
abbrev text_of : tie.Start → List ℕ
text_of s = recoded (way_no s.args.way) (part_of s)

-- Its length and the string are what is due.
string-parted : (c : tie.After-length) → due c.before.before.before.before ≡ length-of c.before.before.before.before c.length.result ++ text_of c.before.before.before.before
string-parted c =
    let a = c.args in
    span-string (way_no a.way) a.doc.now a.kind a.count a.start a.size c.if-kind-eq-STRING.true c.length.ensures

-- There is room for both.
string-room : (c : tie.After-length) → c.args.at + (length (length-of c.before.before.before.before c.length.result) + length (text_of c.before.before.before.before)) ≤ length c.args.out.now
string-room c = room c.before.before.before.before (length-of c.before.before.before.before c.length.result) (text_of c.before.before.before.before) (string-parted c)

put_length-requires : tie.Need-put_length-first-requires
put_length-requires c κs = omega (arith, string-room c.before)

put_string-requires : tie.Need-put_string-requires
put_string-requires c κs =
    let front = c.put_length-first in
    (c.requires.0, omega (arith, string-room c.before.before.before.before.before, front.ensures.next, front.auto.out))

returns : tie.Need-returns-then-kind-eq-STRING
returns c =
    let sized = c.before.before.before.before.before.before.before.before in
    rw (string-parted sized) (puts_then c.put_length-first.ensures (omega (arith, string-room sized)) c.put_string.ensures)

-- ---- numbers

-- The bytes of the numbers.
abbrev numbers_of : tie.Start → List ℕ
numbers_of s = numbers (way_no s.args.way) (element_width s.args.kind) (part_of s)

-- An array's count and the numbers are what is due.
numbers-parted : (c : tie.Else-kind-eq-STRING) → due c.before.before.before ≡ length-of c.before.before.before c.args.size ++ numbers_of c.before.before.before
numbers-parted c = let a = c.args in span-numbers (way_no a.way) a.doc.now a.kind a.count a.start a.size c.if-kind-eq-STRING.false

-- There is room for both.
numbers-room : (c : tie.Else-kind-eq-STRING) → c.args.at + (length (length-of c.before.before.before c.args.size) + length (numbers_of c.before.before.before)) ≤ length c.args.out.now
numbers-room c = room c.before.before.before (length-of c.before.before.before c.args.size) (numbers_of c.before.before.before) (numbers-parted c)

-- The numbers are of the width that the code has.
same_numbers : (c : tie.After-element_width) → let s = c.before.before.before.before.before.before.before.before in numbers (way_no c.args.way) c.element_width.result (part_of s) ≡ numbers_of s
same_numbers c = ap (λ w. numbers (way_no c.args.way) w (part_of c.before.before.before.before.before.before.before.before)) c.element_width.ensures

put_length-requires-2 : tie.Need-put_length-first-requires-2
put_length-requires-2 c κs = omega (arith, numbers-room c.before)

put_numbers-requires : tie.Need-put_numbers-requires
put_numbers-requires c κs =
    let wide = c.element_width.ensures in
    let front = c.put_length-first-2 in (
      omega (arith, wide, width_some c.args.kind),
      omega (arith, wide, width-most c.args.kind),
      c.requires.0,
      omega (arith, numbers-room c.before.before.before.before.before.before, front.ensures.next, front.auto.out, ap length (same_numbers c.before)),
    )

returns-2 : tie.Need-returns
returns-2 c =
    let payload = puts-same (same_numbers c.before.before.before.before) c.put_numbers.ensures in
    let other = c.before.before.before.before.before.before.before.before.before in
    rw (numbers-parted other) (puts_then c.put_length-first-2.ensures (omega (arith, numbers-room other)) payload)

pub put_turned_spec : {M : Type 1} → statement M
put_turned_spec =
    tie.close
    (tie.spec
    (λ c κs. search rules)
    put_length-requires
    put_string-requires
    (λ c. search rules)
    returns
    put_length-requires-2
    (λ c κs. search rules)
    put_numbers-requires
    (λ c. search rules)
    returns-2)
