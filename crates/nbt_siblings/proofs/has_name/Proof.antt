-- `has_name` meets its contract: the search of the words goes from record to record.
-- Assumes nothing.
use native.Mathlib.Omega.{arith}
use Prim.Native.Nat.{◌-◌}
use mathlib.Core.Path.{◌≡◌, sym, ◌∙◌}
use Rattle.form.specs.Table.{word}
use Rattle.form.specs.Spans.{same, part}
use Rattle.nbt_siblings.proofs.Holding.{Seek, seek-start, seek-end, seek-within, seek-on, seek_hit, seek-next}
use Rattle.nbt_siblings.proofs.has_name.Statement.{statement}
use Rattle.nbt_siblings.proofs.has_name.Tie as tie

abbrev Inv : tie.invariant-loop-i
Inv doc table from to start len i₀ i = Seek doc table from to (part doc start len) i

abbrev μ : tie.decreases-loop-i
μ doc table from to start len i₀ i = to - i

abbrev start_of : tie.In-loop-i Inv μ → tie.Start Inv μ
start_of c = let loop = c.before in loop.before.before.before

abbrev turn-of : tie.After-same_name Inv μ → tie.In-loop-i Inv μ
turn-of c = c.before.before.before

-- what the comparison says of the table's words
told : (c : tie.After-same_name Inv μ) →
    let a = (start_of (turn-of c)).args in
    let i = (turn-of c).before.loop-i.i in
    same (part a.doc.now (word a.table.now i 1) (word a.table.now i 2)) (part a.doc.now a.start a.len) ≡ c.same_name.result
told c = sym (rw (c.before.before.word-name.ensures, c.before.word-name_len.ensures) at c.same_name.ensures)

same_name-requires : tie.Need-same_name-requires Inv μ
same_name-requires c κs =
    let turn = c.before.before in
    (omega (arith, seek-within turn.before.loop-i.invariant turn.loop-i-test.true, c.before.word-name.ensures, c.word-name_len.ensures), (start_of turn).requires.2)

returns : tie.Need-returns-then-same_name Inv μ
returns c =
    let turn = turn-of c.before in
    sym (seek_hit turn.before.loop-i.invariant turn.loop-i-test.true (told c.before ∙ c.if-same_name.true))

loop-less : tie.Need-loop-i-smaller Inv μ
loop-less c =
    let turn = turn-of c.before.before in
    omega (arith, c.word-i.ensures, seek-on turn.before.loop-i.invariant turn.loop-i-test.true, turn.loop-i-test.true)

loop-again : tie.Need-loop-i-preserved Inv μ
loop-again c =
    let turn = turn-of c.before.before in
    rw c.word-i.ensures (seek-next turn.before.loop-i.invariant turn.loop-i-test.true (told c.before.before ∙ c.before.if-same_name.false))

pub has_name_spec : {M : Type 1} → statement M
has_name_spec =
    tie.close
    (tie.spec
    Inv
    μ
    (λ c. seek-start _ _ _ _ _ c.before.before.requires.0)
    (λ c κs. (omega arith, omega arith))
    (λ c κs. (omega arith, omega arith))
    same_name-requires
    returns
    (λ c κs. (omega arith, omega arith))
    loop-less
    loop-again
    (λ c. sym (seek-end c.before.loop-i.invariant c.loop-i-test.false)))
