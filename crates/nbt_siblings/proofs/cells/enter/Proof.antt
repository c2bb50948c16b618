-- `enter` meets its contract: the records of the class before the one at hand stand in cells, and none of them has an earlier twin.
-- Assumes nothing.
use native.Mathlib.Omega.{arith}
use Prim.Native.Nat.{◌-◌}
use mathlib.Core.Path.{◌∙◌}
use borrow.Author.Rules.{rules}
use Rattle.nbt_siblings.specs.Names.{end_of}
use Rattle.nbt_siblings.proofs.Tables.{agree-end}
use Rattle.nbt_siblings.proofs.Stored.{Filled, filled-start, filled-end, filled-cells, filled_on, filled-fit, filled-twin, filled_next, filled_at, frame_same}
use Rattle.nbt_siblings.proofs.cells.enter.Statement.{statement}
use Rattle.nbt_siblings.proofs.cells.enter.Tie as tie

abbrev Inv : tie.invariant-loop-i
Inv doc table₀ first stop last class spare₀ i₀ table spare i = Filled doc table₀ first stop last class table i

abbrev μ : tie.decreases-loop-i
μ doc table₀ first stop last class spare₀ i₀ table spare i = stop - i

-- with the record at hand placed, those before the next stand in cells
next : (c : tie.In-On Inv μ) →
    Filled c.args.doc.now c.args.table.now c.args.first c.args.stop c.args.last c.args.class c.place.new.table (end_of c.args.table.now c.loop-i.i)
next c =
    filled_next c.requires.0 c.loop-i.invariant c.loop-i-test.true (λ j. omega (arith, c.shared_slice_known-1.given j)) _
    c.in-On.used (rw c.in-On.is at c.place.ensures)

place-requires : tie.Need-place-requires Inv μ
place-requires c κs =
    let r = c.requires.0 in
    let i = c.loop-i.invariant in
    (filled-fit r i c.loop-i-test.true, filled-cells r i, r.wide, r.small)

returns-2 : tie.Need-returns-in-Twin Inv μ
returns-2 c =
    let i = c.loop-i.invariant in
    let h = rw c.in-Twin.is at c.place.ensures in
    (frame_same i.frame h.0, (filled-twin c.requires.0 i c.loop-i-test.true h.1, i.none))

returns-3 : tie.Need-returns-in-Full Inv μ
returns-3 c = (frame_same c.loop-i.invariant.frame (rw c.in-Full.is at c.place.ensures), tt)

word-requires : tie.Need-word-i-requires Inv μ
word-requires c κs =
    let i = c.loop-i.invariant in
    (omega (arith, (filled-fit c.requires.0 i c.loop-i-test.true).room, i.frame.len, (next c.before).frame.len), omega arith)

loop-less : tie.Need-loop-i-smaller Inv μ
loop-less c =
    omega (
      arith,
      c.word-i.ensures,
      agree-end (next c.before.before).frame c.loop-i.i,
      filled_on c.requires.0 c.loop-i.invariant c.loop-i-test.true,
      c.loop-i-test.true,
    )

loop-again : tie.Need-loop-i-preserved Inv μ
loop-again c =
    let filled = next c.before.before in
    filled_at filled (c.word-i.ensures ∙ agree-end filled.frame c.loop-i.i)

pub enter_spec : {M : Type 1} → statement M
enter_spec =
    tie.close
    (tie.spec
    Inv
    μ
    (λ c. omega (arith, c.requires.0.wide))
    (λ c. omega (arith, c.requires.0.small))
    (λ c. filled-start c.requires.0 _ c.requires.1)
    place-requires
    (λ c. search rules)
    (λ c. (next c.before).frame.len)
    (λ c. ((next c.before).frame, tt))
    (λ c. search rules)
    (λ c. (returns-2 c).0.len)
    returns-2
    (λ c. search rules)
    (λ c. (returns-3 c).0.len)
    returns-3
    word-requires
    loop-less
    loop-again
    (λ c. c.loop-i.invariant.frame.len)
    (λ c. (c.loop-i.invariant.frame, filled-end c.requires.0 c.loop-i.invariant c.loop-i-test.false)))
