-- Right since the code puts a string's length or an array's count, then the span as it stands, as the definition has them.
-- Assumes nothing.
use borrow.Author.Rules.{rules}
use native.Mathlib.Omega.{arith}
use mathlib.Core.List.{List}
use mathlib.Core.Path.{refl}
use Prim.Native.Nat.{ℕ, ◌+◌, ◌≤◌}
use lib.ListN.{length, length-append}
use Rattle.form.specs.Form.{way_no}
use Rattle.form.specs.Spans.{part}
use Rattle.form.proofs.Spans.{part_length}
use Rattle.recode.proofs.Outputs.{copied}
use Rattle.nbt_writer.specs.Steps.{length_bytes}
use Rattle.nbt_writer.proofs.Puts.{puts_then}
use Rattle.nbt_writer.proofs.put_same.Statement.{statement}
use Rattle.nbt_writer.proofs.put_same.Tie as tie

-- What stands before the span.
abbrev length-of : tie.Start → List ℕ
length-of s = length_bytes (way_no s.args.way) s.args.kind s.args.size s.args.count

-- There is room for both.
room : (s : tie.Start) → s.args.at + (length (length-of s) + s.args.size) ≤ length s.args.out.now
room s =
    let a = s.args in
    omega (arith, s.requires.1, length-append (length-of s) (part a.doc.now a.start a.size), part_length a.doc.now a.start a.size s.requires.0)

put_length-requires : tie.Need-put_length-first-requires
put_length-requires c κs = omega (arith, room c.before.before.before)

copy-requires : tie.Need-copy-requires
copy-requires c κs =
    let front = c.put_length-first in
    (c.requires.0, omega (arith, room c.before.before.before.before.before.before.before, front.ensures.next, front.auto.out))

add-result : tie.Need-overflow_add-result
add-result c =
    omega (arith, room c.before.before.before.before.before.before.before.before.before.before, c.well_formed, c.put_length-first.ensures.next)

returns : tie.Need-returns
returns c =
    let a = c.args in
    let front = c.put_length-first in
    let span = copied (part a.doc.now a.start a.size) a.doc.now _ _ a.start a.size front.result c.requires.0 refl c.copy.ensures in
    puts_then front.ensures (omega (arith, room c.before.before.before.before.before.before.before.before.before.before)) span

pub put_same_spec : {M : Type 1} → statement M
put_same_spec = tie.close (tie.spec put_length-requires copy-requires add-result (λ c. search rules) returns)
