-- `query::visit_all` meets its contract. The invariant: what was found, then what is found in the records left, is what is found in all; the
-- measure of the loop is how many records are left, and that of the recursion how many levels the records in record n have, which is at
-- most the depth limit. Assumes nothing.
use Prim.Native.Nat.{ℕ, ◌-◌, ◌<◌}
use native.Mathlib.Omega.{arith}
use borrow.Fn.Kinds.{In, Out}
use borrow.Fn.PlainCycle.{Measures, is, falls, and}
use Rattle.form.specs.Table.{word}
use Rattle.query.specs.Sides.{levels_below}
use Rattle.query.proofs.Walking.{
  Going,
  done-as,
  going_start,
  going_end,
  going-own,
  going_on,
  going-few,
  going-index,
  going_less,
  going-ready,
  going-over,
  going_next,
}
use Rattle.query.proofs.visit_all.Reads as visit-all
use Rattle.query.proofs.visit_all.Kinds as kinds
use Rattle.query.proofs.+visit_all.Lts-visit_all as lts
use Rattle.query.proofs.+visit_all.Lts-visit_all.{then-goes_in, else-goes_in}
use Rattle.query.proofs.goes_in.Reads as goes-in-reads
use Rattle.query.proofs.note.Reads as note-reads
use Rattle.query_reach.proofs.next.Reads as next-reads
use Rattle.table.proofs.word.Reads as word-reads
use Rattle.query.proofs.+visit_all.{statement}
use Rattle.query.proofs.+visit_all.Tie.{close}

-- What falls: the levels below the record.
abbrev μ : Measures 5 kinds.ps ℕ
μ κs a = levels_below a.1.0.now a.1.1.1.1.0

abbrev at : ℕ → In 5 kinds.ps
at t = and 5 kinds.ps (is 5 kinds.ps μ t) visit-all.Pre

abbrev below : ℕ → In 5 kinds.ps
below t = and 5 kinds.ps (falls 5 kinds.ps ◌<◌ μ t) visit-all.Pre

abbrev invariant-loop : lts.invariant-loop-i
invariant-loop doc table q plan n set list₀ count end more₀ i₀ index₀ list more i index = Going doc table q plan n set list₀ count list more i index

abbrev decreases-loop : lts.decreases-loop-i
decreases-loop doc table q plan n set list₀ count end more₀ i₀ index₀ list more i index = end - i

-- What the calls ask and give.
abbrev claims : ℕ → lts.Claims
claims t = (
  word-reads.Asked,
  word-reads.Learnt,
  next-reads.Asked,
  next-reads.Learnt,
  note-reads.Asked,
  note-reads.Learnt,
  goes-in-reads.Asked,
  goes-in-reads.Learnt,
  below t,
  visit-all.Post,
)

abbrev On : ℕ → (lts.Claims → In 5 kinds.ps → Out 5 kinds.ps kinds.r → lts.invariant-loop-i → lts.decreases-loop-i → Type 0) → Type 0
On t F = F (claims t) (at t) visit-all.Post invariant-loop decreases-loop

module _ (t : ℕ) where
  -- The places: where the function begins, where a turn of the loop does, and where the record's match is noted.
  abbrev known_start : On t lts.After-slice_known-1 → On t lts.Start
  known_start c = let at-slices = c.before in at-slices.before.before.before

  abbrev loop-start : On t lts.At-loop-i → On t lts.Start
  loop-start c = known_start c.before.before

  abbrev noted-turn : On t lts.After-note-more → On t lts.In-loop-i
  noted-turn c = c.before.before.before

  abbrev ended-note : On t lts.After-word-next → On t lts.After-note-more
  ended-note c = c.before.before.before

  -- A record is left.
  left : (c : On t lts.In-loop-i) → c.before.loop-i.i < word (loop-start c.before).args.table.now (loop-start c.before).args.n 7
  left c =
      let end = c.before.before.word-end.ensures in
      let below = c.loop-i-test.true in
      omega arith

  word-requires : On t lts.Need-word-end-requires
  word-requires c κs = ((known_start c).requires.1.own.row, omega arith)

  add-i : On t lts.Need-overflow_add-i
  add-i c =
      let w = (known_start c.before).requires.1 in
      let row = w.own.row in
      let few = w.few in
      omega arith

  loop-holds : On t lts.Need-loop-i-init
  loop-holds c = going_start (known_start c.before).requires.1

  next-requires : On t lts.Need-next-own-requires
  next-requires c κs =
      let at-loop = c.before in
      let w = (loop-start at-loop).requires.1 in
      ((w.total, w.path, w.reaches), w.own, going-own w at-loop.loop-i.invariant (left c))

  note-requires : On t lts.Need-note-more-requires
  note-requires c κs =
      let turn = c.before.before in
      let at-loop = turn.before in
      going-few (loop-start at-loop).requires.1 at-loop.loop-i.invariant (left turn)

  word-requires-2 : On t lts.Need-word-next-requires
  word-requires-2 c κs =
      let turn = noted-turn c.before.before in
      let at-loop = turn.before in
      ((going-own (loop-start at-loop).requires.1 at-loop.loop-i.invariant (left turn)).row, omega arith)

  goes-in-requires : On t lts.Need-goes_in-requires
  goes-in-requires c κs =
      let turn = noted-turn (ended-note c) in
      let at-loop = turn.before in
      (going-few (loop-start at-loop).requires.1 at-loop.loop-i.invariant (left turn)).1

  visit-all-requires : On t lts.Need-visit_all-more-requires
  visit-all-requires c κs =
      let at-goes-in = c.before.before in
      let at-note = ended-note at-goes-in.before in
      let turn = noted-turn at-note in
      let at-loop = turn.before in
      let at-start = loop-start at-loop in
      let w = at-start.requires.1 in
      let same = at-start.requires.0 in
      let less = going_less w at-loop.loop-i.invariant (left turn) in
      (omega arith, going-ready w at-loop.loop-i.invariant (left turn) at-note.before.before.next-own.ensures at-note.note-more.ensures)

  add-index : On t lts.Need-overflow_add-index
  add-index c =
      let at-word2 = c.before.before in
      let turn = noted-turn (ended-note at-word2) in
      let at-loop = turn.before in
      let few = going-index (loop-start at-loop).requires.1 at-loop.loop-i.invariant (left turn) in
      omega arith

  loop-less : On t lts.Need-loop-i-smaller
  loop-less c =
      let at-word2 = c.before.before in
      let turn = noted-turn (ended-note at-word2) in
      let at-loop = turn.before in
      let on = going_on (loop-start at-loop).requires.1 at-loop.loop-i.invariant (left turn) in
      let past = at-word2.word-next.ensures in
      let below = turn.loop-i-test.true in
      omega arith

  loop-again : On t lts.Need-loop-i-preserved
  loop-again c =
      let at-goes-in = c.before in
      let at-word2 = at-goes-in.before in
      let at-note = ended-note at-word2 in
      let at_next = at-note.before.before in
      let turn = noted-turn at-note in
      let at-loop = turn.before in
      let w = (loop-start at-loop).requires.1 in
      let s = at-loop.loop-i.invariant in
      rw at-word2.word-next.ensures
      (going_next w s (left turn) at_next.next-own.ensures at-note.note-more.ensures
      (elim c.if-goes_in.branch [
        | then-goes_in r ↦ done-as r.visit_all-more.ensures r.list-is r.more-is
        | else-goes_in r ↦
            done-as (going-over w s (left turn) at_next.next-own.ensures at-note.note-more.ensures at-word2.word-next.ensures at-goes-in.goes_in.ensures r.if-goes_in.false) r.list-is r.more-is
      ]))

  same_length : On t lts.Need-shape_of-list
  same_length c = c.before.loop-i.invariant.long

  returns : On t lts.Need-returns
  returns c =
      let at-loop = c.before in
      let end = at-loop.before.word-end.ensures in
      let past = c.loop-i-test.false in
      going_end (loop-start at-loop).requires.1 at-loop.loop-i.invariant (omega arith)

pub +visit_all_spec : {M : Type 1} → statement M
+visit_all_spec =
    close μ
    (λ t. lts.spec (claims t) (at t) visit-all.Post invariant-loop decreases-loop
    (word-requires t)
    (add-i t)
    (loop-holds t)
    (next-requires t)
    (note-requires t)
    (word-requires-2 t)
    (goes-in-requires t)
    (visit-all-requires t)
    (add-index t)
    (loop-less t)
    (loop-again t)
    (same_length t)
    (returns t))
