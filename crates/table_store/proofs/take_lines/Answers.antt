-- `table_store::take_lines` meets its contract: after n lines their words stand in the table, and the answer is what the others add.
-- Assumes nothing.
use Rattle.std.proofs.Common.{ℕ, List, Bool, true, false, ◌≡◌, ◌*◌, drop, subst, refl, arith}
use Rattle.table_store.specs.Steps.{FirstLine}
use Rattle.table_store.proofs.Taking.{sofar-start, sofar-length, sofar-bad, sofar-full, sofar-end, line-there, sofar-next}
use Rattle.table_store.proofs.take_lines.Goals as goal

pub loop-n-init : goal.loop-n-init
loop-n-init c = sofar-start _ _

-- The line that stands next, known to be good or bad.
next : (lines : List ℕ) (n : ℕ) (r good : Bool) → r ≡ good → FirstLine 9 (drop (73 * n) lines) r → FirstLine 9 (drop (73 * n) lines) good
next lines n r good e = subst (FirstLine 9 (drop (73 * n) lines)) e

pub returns-then-not-is_line : goal.returns-then-not-is_line
returns-then-not-is_line c =
    let l = c.loop-n in
    sofar-bad _ _ l.table l.n l.invariant (next _ l.n _ false c.if-not-is_line.true c.is_line.ensures)

pub returns-then-room-n : goal.returns-then-room-n
returns-then-room-n c =
    let l = c.loop-n in
    sofar-full _ _ l.table l.n l.invariant (next _ l.n _ true c.if-not-is_line.false c.is_line.ensures) c.if-room-n.true

pub take_line-requires : goal.take_line-requires
take_line-requires c =
    let l = c.loop-n in
    let good = next _ l.n _ true c.if-not-is_line.false c.is_line.ensures in (
      omega (arith, line-there _ _ l.table l.n l.invariant good),
      omega (arith, sofar-length _ _ l.table l.n l.invariant),
      (good.front refl).digits,
    )

pub loop-n-preserved : goal.loop-n-preserved
loop-n-preserved c =
    let l = c.loop-n in
    sofar-next _ _ l.table l.n l.invariant (next _ l.n _ true c.if-not-is_line.false c.is_line.ensures) c.if-room-n.false _ c.take_line.ensures

pub returns : goal.returns
returns c =
    let l = c.loop-n in
    sofar-end _ _ l.table l.n l.invariant c.loop-n-test.false
