-- `place` meets its contract: the cells from the mark's first on are those that are sought.
-- Assumes nothing.
use native.Mathlib.Omega.{arith}
use Prim.Native.Nat.{◌%◌}
use mathlib.Core.Path.{refl, sym, ap, ◌∙◌}
use mathlib.Core.Logic.{inl, inr}
use borrow.Author.Rules.{rules}
use Rattle.nbt_siblings.specs.Cells.{Open}
use Rattle.nbt_siblings.proofs.Stored.{place-cells, place-put, place-met, cells-room}
use Rattle.nbt_siblings.proofs.cells.place.Statement.{statement}
use Rattle.nbt_siblings.proofs.cells.place.Tie as tie

-- the free cell that was found
spot : (c : tie.In-Free) → Open c.args.doc.now c.args.table.now c.args.i c.home-from.result c.edge.result c.in-Free.k
spot c = rw c.in-Free.is at c.probe.ensures

probe-requires : tie.Need-probe-requires
probe-requires c κs =
    (c.requires.0, place-cells _ _ _ _ _ c.mark-m.ensures c.home-from.ensures.0 c.edge.ensures.1 c.requires.1)

relink-requires : tie.Need-relink-requires
relink-requires c κs =
    let p = c.requires in
    let o = spot c.before in
    (cells-room _ _ _ _ p.1 _ (omega (arith, o.low, c.home-from.ensures.0)) (omega (arith, o.high, c.edge.ensures.1)), p.0.small)

returns-2 : tie.Need-returns-in-Free
returns-2 c =
    let mark = c.mark-m.ensures in
    let put = place-put _ _ _ _ _ mark c.home-from.ensures.0 c.edge.ensures.1 (rw c.in-Free.is at c.probe.ensures) c.relink.ensures.1 in
    inr (sym (ap (λ x. x % 2) mark) ∙ c.if-m-class.false, put)

returns-3 : tie.Need-returns-in-Twin
returns-3 c =
    (refl, place-met _ _ _ _ _ c.mark-m.ensures c.home-from.ensures.0 c.edge.ensures.1 (rw c.in-Twin.is at c.probe.ensures))

pub place_spec : {M : Type 1} → statement M
place_spec =
    tie.close
    (tie.spec
    (λ c κs. search rules)
    (λ c. search rules)
    (λ c. inl (refl, λ q. c.if-m-class.true (ap (λ x. x % 2) c.mark-m.ensures ∙ q)))
    (λ c κs. search rules)
    (λ c κs. search rules)
    probe-requires
    (λ c. search rules)
    relink-requires
    (λ c. let o = rw c.in-Free.is at c.probe.ensures in omega arith)
    (λ c. search rules)
    (λ c. search rules)
    (λ c. search rules)
    returns-2
    (λ c. search rules)
    returns-3
    (λ c. search rules)
    (λ c. search rules))
