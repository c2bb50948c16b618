-- Right by the rule of the form, which is told by the test of it; the room is there, so that a value of modified UTF-8 is written too.
-- Assumes nothing.
use mathlib.Core.Path.{◌≡◌, sym, ap, ◌∙◌}
use mathlib.Core.Bool.{true, false}
use Prim.Native.Nat.{◌+◌, ◌≤◌}
use borrow.Author.Rules.{rules}
use lib.Dec.{eqb}
use lib.ListN.{length}
use Rattle.form.specs.Strings.{utf8_bytes, scalar_bytes}
use Rattle.chars.proofs.Puts.{wrote-room}
use Rattle.chars.proofs.put_in.Statement.{statement}
use Rattle.chars.proofs.put_in.Tie as tie

-- how many bytes there are is known
abbrev sized_of : tie.After-is_pocket → tie.After-length_in-size
sized_of c = c.before

abbrev start_of : tie.After-is_pocket → tie.Start
start_of c = (sized_of c).before.before

-- the form is the pocket edition's, or it is not
pocket : (c : tie.Then-is_pocket) → eqb (start_of c.before).args.form 2 ≡ true
pocket c = sym c.before.is_pocket.ensures ∙ c.if-is_pocket.true

other : (c : tie.Else-is_pocket) → eqb (start_of c.before).args.form 2 ≡ false
other c = sym c.before.is_pocket.ensures ∙ c.if-is_pocket.false

-- so the room is for the bytes of that rule
pocket-room : (c : tie.Then-is_pocket) → let a = (start_of c.before).args in a.at + length (utf8_bytes a.c) ≤ length a.out.now
pocket-room c = rw (pocket c) at (start_of c.before).requires.1

other-room : (c : tie.Else-is_pocket) → let a = (start_of c.before).args in a.at + length (scalar_bytes a.c) ≤ length a.out.now
other-room c = rw (other c) at (start_of c.before).requires.1

put_utf8-requires : tie.Need-put_utf8-requires
put_utf8-requires c κs = ((start_of c.before.before).requires.0, pocket-room c.before)

returns : tie.Need-returns-then-is_pocket
returns c =
    let at-put = c.before.before in
    let at_test = at-put.before.before in
    (rw (pocket at_test) at-put.put_utf8.ensures, ap (λ n. (start_of at_test.before).args.at + n) (sized_of at_test.before).length_in-size.ensures)

returns-2 : tie.Need-returns
returns-2 c =
    let at-put = c.before.before in
    let at_test = at-put.before.before in
    let a = (start_of at_test.before).args in (
      rw (other at_test) (wrote-room a.out.now _ (scalar_bytes a.c) a.at at-put.put_scalar.result (other-room at_test) at-put.put_scalar.ensures),
      ap (λ n. a.at + n) (sized_of at_test.before).length_in-size.ensures,
    )

pub put_in_spec : {M : Type 1} → statement M
put_in_spec =
    tie.close
    (tie.spec
    (λ c κs. search rules)
    (λ c κs. search rules)
    put_utf8-requires
    (λ c. search rules)
    (λ c. search rules)
    returns
    (λ c κs. search rules)
    (λ c. search rules)
    (λ c. search rules)
    returns-2)
