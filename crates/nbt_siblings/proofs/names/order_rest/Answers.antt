-- What is left differs by as much as the whole.
use Rattle.std.proofs.Common.{ℕ, ◌+◌, ◌≤◌, ◌<◌, List, length, get_or, sym, arith}
use Rattle.nbt_siblings.proofs.Numbers.{Level, Facing, facing-swap, facing-less, facing-next, value-one}
use Rattle.nbt_siblings.proofs.names.order_rest.Goals as goal

-- the bytes at hand
facing : {doc : List ℕ} {a b n i : ℕ} → ((k : ℕ) → get_or doc k 0 < 256) → i < n → a + n ≤ length doc → b + n ≤ length doc → Level doc a b n i
    → Facing doc a b n i 1 (get_or doc (a + i) 0) (get_or doc (b + i) 0)
facing {doc = doc} {a = a} {b = b} {i = i} bytes lt first second level = record {
  bytes = bytes;
  within = omega arith;
  first = first;
  second = second;
  x-is = sym (value-one doc (a + i) (omega arith));
  y-is = sym (value-one doc (b + i) (omega arith));
  level = level;
}

pub returns-then-x-y : goal.returns-then-x-y
returns-then-x-y c =
    facing-less (facing (λ j. omega (arith, c.type_inv.doc j)) c.loop-i-test.true c.requires.0 c.requires.1 c.loop-i.invariant) c.if-x-y.true

pub returns-then-y-x : goal.returns-then-y-x
returns-then-y-x c =
    facing-less (facing-swap (facing (λ j. omega (arith, c.type_inv.doc j)) c.loop-i-test.true c.requires.0 c.requires.1 c.loop-i.invariant)) c.if-y-x.true

pub loop-i-preserved : goal.loop-i-preserved
loop-i-preserved c =
    facing-next (facing (λ j. omega (arith, c.type_inv.doc j)) c.loop-i-test.true c.requires.0 c.requires.1 c.loop-i.invariant)
    (omega (arith, c.if-x-y.false, c.if-y-x.false))
