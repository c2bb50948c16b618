-- `spans` meets its contract.
-- Assumes nothing.
use native.Mathlib.Omega.{arith}
use borrow.Author.Rules.{rules}
use Rattle.nbt_siblings.proofs.Numbers.{num-shorter}
use Rattle.nbt_siblings.proofs.Orders.{spans-num}
use Rattle.nbt_siblings.proofs.names.spans.Statement.{statement}
use Rattle.nbt_siblings.proofs.names.spans.Tie as tie

returns : tie.Need-returns-then-n-m
returns c =
    let known = c.before in
    let p = known.before.requires in
    num-shorter _ (λ j. omega (arith, known.shared_slice_known-1.given j)) _ _ _ _ p.0 p.1 c.if-n-m.true

returns-2 : tie.Need-returns-then-m-n
returns-2 c =
    let known = c.before.before in
    let p = known.before.requires in
    num-shorter _ (λ j. omega (arith, known.shared_slice_known-1.given j)) _ _ _ _ p.1 p.0 c.if-m-n.true

returns-3 : tie.Need-returns
returns-3 c =
    let longer = c.before in
    let shorter = longer.before in
    let p = shorter.before.before.requires in
    spans-num _ _ _ _ _ c.order_bytes.result p.0 p.1 (omega (arith, longer.if-m-n.false, shorter.if-n-m.false)) c.order_bytes.ensures

pub spans_spec : {M : Type 1} → statement M
spans_spec = tie.close (tie.spec returns returns-2 (λ c κs. search rules) returns-3)
