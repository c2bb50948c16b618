-- Right since the room for the whole value is tested first; above the basic plane the second half stands behind the first.
-- Assumes nothing.
use Prim.Native.Nat.{◌+◌, ◌-◌}
use mathlib.Core.Path.{ap}
use native.Mathlib.Omega.{arith}
use borrow.Author.Rules.{rules}
use lib.Bits.{and_mask, mask_lt, bit_and}
use lib.ListN.{length}
use Rattle.form.specs.Strings.{high_half}
use Rattle.form.proofs.Scalars.{sb-low}
use Rattle.chars.proofs.Puts.{half_length, pair-length, pair_put}
use Rattle.chars.proofs.put_scalar.Statement.{statement}
use Rattle.chars.proofs.put_scalar.Tie as tie

abbrev start_of : tie.After-length_of-size → tie.Start
start_of c = c.before.before

-- there is room for one unit, or for two; the first of two has been written
abbrev one_of : tie.After-put_unit-arg-1 → tie.After-length_of-size
one_of c = c.before.before.before

abbrev two-of : tie.After-put_unit-arg-2-1 → tie.After-length_of-size
two-of c = c.before.before.before

abbrev first_of : tie.After-slice_known-2-1 → tie.After-put_unit-arg-2-1
first_of c = c.before.before.before

pub put_scalar_spec : {M : Type 1} → statement M
put_scalar_spec =
    tie.close
    (tie.spec
    (λ c κs. search rules)
    (λ c. search rules)
    (λ c. search rules)
    (λ c κs. let z = one_of c in (omega arith, omega (arith, ap length (sb-low (start_of z).args.c (omega arith)), z.length_of-size.ensures)))
    (λ c. search rules)
    (λ c. search rules)
    (λ c. let p = c.before.before in let z = one_of p.before in
    (omega (arith, z.length_of-size.ensures), omega arith, rw (sb-low (start_of z).args.c (omega arith)) c.put_unit.ensures))
    (λ c. search rules)
    (λ c κs. let z = two-of c in let x = (start_of z).args.c in
    (omega arith, omega (arith, half_length (high_half x) (omega arith), pair-length x (omega arith), z.length_of-size.ensures)))
    (λ c. omega (arith, mask_lt ((start_of (two-of (first_of c))).args.c - 65536) 10))
    (λ c. search rules)
    (λ c κs. let k = c.before in let z = two-of (first_of k) in let x = (start_of z).args.c in let m = mask_lt (x - 65536) 10 in (
      omega (arith, m),
      omega (arith, m, half_length (56320 + bit_and (x - 65536) 1023) (omega arith), pair-length x (omega arith), z.length_of-size.ensures, c.put_unit-2.auto.out),
    ))
    (λ c. search rules)
    (λ c. search rules)
    (λ c. let p = c.before.before in let k = p.before.before in let z = two-of (first_of k) in let a = (start_of z).args in let e = z.length_of-size.ensures in (
      omega (arith, e),
      omega arith,
      pair_put a.out.now _ _ a.c a.at (omega arith) (omega (arith, e, pair-length a.c (omega arith))) c.put_unit-2.ensures
          (rw (← and_mask (a.c - 65536) 10) c.put_unit-3.ensures),
    )))
