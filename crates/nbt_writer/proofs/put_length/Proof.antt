-- Right since each way through the code is a case of the definition.
-- Assumes nothing.
use borrow.Author.Rules.{rules}
use native.Mathlib.Omega.{arith}
use mathlib.Core.List.{List}
use mathlib.Core.Path.{◌≡◌, refl, ap}
use Prim.Native.Nat.{ℕ}
use lib.ListN.{length}
use Rattle.form.specs.Form.{way_no}
use Rattle.form.specs.Numbers.{bytes_in}
use Rattle.form.proofs.Orders.{bytes-length}
use Rattle.recode.proofs.Outputs.{puts_none}
use Rattle.nbt_writer.specs.Steps.{length_bytes}
use Rattle.nbt_writer.proofs.Puts.{puts-number}
use Rattle.nbt_writer.proofs.Spans.{length-string, length-array, length-fixed}
use Rattle.nbt_writer.proofs.put_length.Statement.{statement}
use Rattle.nbt_writer.proofs.put_length.Tie as tie

-- The bytes that are due.
abbrev due : tie.Start → List ℕ
due s = length_bytes (way_no s.args.way) s.args.kind s.args.size s.args.count

-- A string's length.
string_bytes : (c : tie.In-8) → due c.before.before ≡ bytes_in (way_no c.args.way).to.order 2 c.args.size
string_bytes c = let a = c.args in length-string (way_no a.way) a.kind a.size a.count c.in-8.is

-- An array's count.
array-bytes : (c : tie.In_default) → due c.before.before ≡ bytes_in (way_no c.args.way).to.order 4 c.args.count
array-bytes c = let a = c.args in length-array (way_no a.way) a.kind a.size a.count c.in_default.in_default-own.rest.1 (omega arith)

put_count-requires : tie.Need-put_count-requires
put_count-requires c κs =
    (omega arith, omega (arith, c.requires, ap length (string_bytes c.before), bytes-length (way_no c.args.way).to.order 2 c.args.size))

put_count-requires-2 : tie.Need-put_count-requires-in_default
put_count-requires-2 c κs =
    (omega arith, omega (arith, c.requires, ap length (array-bytes c.before), bytes-length (way_no c.args.way).to.order 4 c.args.count))

returns : tie.Need-returns-in-8
returns c =
    rw (string_bytes c.before.before.before.before) (puts-number (way_no c.args.way).to.order 2 _ _ refl refl c.put_count.ensures)

returns-2 : tie.Need-returns-in-0-to-6
returns-2 c =
    let a = c.args in
    rw (length-fixed (way_no a.way) a.kind a.size a.count (omega arith)) (puts_none _ _)

returns-3 : tie.Need-returns-in_default
returns-3 c =
    rw (array-bytes c.before.before.before.before) (puts-number (way_no c.args.way).to.order 4 _ _ refl refl c.put_count-in_default.ensures)

pub put_length_spec : {M : Type 1} → statement M
put_length_spec =
    tie.close
    (tie.spec
    put_count-requires
    (λ c. search rules)
    put_count-requires-2
    (λ c. search rules)
    (λ c. search rules)
    returns
    returns-2
    (λ c. search rules)
    returns-3)
