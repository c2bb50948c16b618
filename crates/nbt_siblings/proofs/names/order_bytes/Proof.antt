-- `order_bytes` meets its contract: what is left differs by as much as the whole.
-- Assumes nothing.
use native.Mathlib.Omega.{arith}
use Prim.Native.Nat.{◌+◌, ◌-◌}
use mathlib.Core.Path.{sym, ◌∙◌}
use Rattle.nbt_siblings.proofs.Numbers.{Level, level-start, Facing, facing-swap, facing-less, facing-next, value-eight}
use Rattle.nbt_siblings.proofs.Orders.{ordered-rest}
use Rattle.nbt_siblings.proofs.names.order_bytes.Statement.{statement}
use Rattle.nbt_siblings.proofs.names.order_bytes.Tie as tie

abbrev Inv : tie.invariant-loop-i
Inv doc a b n i₀ i = Level doc a b n i

abbrev μ : tie.decreases-loop-i
μ doc a b n i₀ i = n - i

abbrev turn-of : tie.After-eight-y Inv μ → tie.In-loop-i Inv μ
turn-of c = c.before.before

abbrev known_of : tie.After-eight-y Inv μ → tie.After-shared_slice_known-1 Inv μ
known_of c = (turn-of c).before.before

-- the eight bytes at hand
facing : (c : tie.After-eight-y Inv μ) →
    let a = (known_of c).before.args in
    Facing a.doc.now a.a a.b a.n (turn-of c).before.loop-i.i 8 c.before.eight-x.result c.eight-y.result
facing c =
    let turn = turn-of c in
    let start = (known_of c).before in
    let a = start.args in
    let i = turn.before.loop-i.i in
    record {
      bytes = λ j. omega (arith, (known_of c).shared_slice_known-1.given j);
      within = omega (arith, turn.loop-i-test.true);
      first = start.requires.0;
      second = start.requires.1;
      x-is = c.before.eight-x.ensures ∙ sym (value-eight a.doc.now (a.a + i) (omega (arith, turn.loop-i-test.true, start.requires.0)));
      y-is = c.eight-y.ensures ∙ sym (value-eight a.doc.now (a.b + i) (omega (arith, turn.loop-i-test.true, start.requires.1)));
      level = turn.before.loop-i.invariant;
    }

pub order_bytes_spec : {M : Type 1} → statement M
order_bytes_spec =
    tie.close
    (tie.spec
    Inv
    μ
    (λ c. level-start _ _ _ _)
    (λ c. omega arith)
    (λ c. omega arith)
    (λ c κs. omega arith)
    (λ c. omega arith)
    (λ c κs. omega arith)
    (λ c. facing-less (facing c.before) c.if-x-y.true)
    (λ c. facing-less (facing-swap (facing c.before.before)) c.if-y-x.true)
    (λ c. omega arith)
    (λ c. omega arith)
    (λ c. facing-next (facing c.before.before) (omega (arith, c.before.if-x-y.false, c.if-y-x.false)))
    (λ c. omega arith)
    (λ c. omega arith)
    (λ c. omega arith)
    (λ c κs. (omega arith, omega arith))
    (λ c. ordered-rest _ _ _ _ c.order_rest.result c.before.before.loop-i.invariant.is c.order_rest.ensures))
