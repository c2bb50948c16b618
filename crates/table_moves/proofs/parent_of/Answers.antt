-- `table_moves::parent_of` meets its contract: each record that the climb has passed has ended.
-- Assumes nothing.
use Rattle.std.proofs.Common.{ℕ, ◌≤◌, ◌<◌, ◌≡◌, sym, subst, arith}
use Rattle.form.specs.Moved.{eight}
use Rattle.table_stored.specs.Words.{line_word}
use Rattle.table_moves.specs.Steps.{Innermost}
use Rattle.table_moves.proofs.Parents.{root-innermost, found, climbs-on, climbed}
use Rattle.table_moves.proofs.parent_of.Goals as goal

pub returns-then-i-eq0 : goal.returns-then-i-eq0
returns-then-i-eq0 c = root-innermost _ _ c.if-i-eq0.true

pub loop-q-init : goal.loop-q-init
loop-q-init c = (omega arith, λ m lo hi. absurd (omega arith))

pub word-requires : goal.word-requires
word-requires c = c.requires.ends c.loop-q.q c.loop-q.invariant.0

pub word-q-requires : goal.word-q-requires
word-q-requires c = c.requires.there c.loop-q.q c.loop-q.invariant.0

-- The record that the climb comes from has ended, and its parent is known.
parent : (get : ℕ → ℕ → ℕ) (q p r : ℕ) → p ≡ r → Innermost get q r → Innermost get q p
parent get q p r e = subst (Innermost get q) (sym e)

ended : (get : ℕ → ℕ → ℕ) (q i w : ℕ) → w ≡ get q 7 → w ≤ i → get q 7 ≤ i
ended get q i w e = subst (λ x. x ≤ i) e

pub loop-q-smaller : goal.loop-q-smaller
loop-q-smaller c =
    let l = c.loop-q in
    let get = line_word eight c.args.lines.now in
    let p = parent get l.q _ _ c.word-q.ensures (c.requires.parents l.q l.invariant.0) in
    p.before (climbs-on get _ l.q l.invariant.0 l.invariant.1 (ended get l.q _ _ c.word.ensures c.loop-q-test.true) c.requires.root _ p)

pub loop-q-preserved : goal.loop-q-preserved
loop-q-preserved c =
    let l = c.loop-q in
    let get = line_word eight c.args.lines.now in
    let p = parent get l.q _ _ c.word-q.ensures (c.requires.parents l.q l.invariant.0) in
    climbed get _ l.q l.invariant.0 l.invariant.1 (ended get l.q _ _ c.word.ensures c.loop-q-test.true) c.requires.root _ p

pub returns : goal.returns
returns c =
    let l = c.loop-q in
    found _ _ l.q l.invariant.0 l.invariant.1 (subst (λ x. c.args.i < x) c.word.ensures c.loop-q-test.false)
