-- `sort` meets its contract: two halves are sorted the other way and merged. It ends, since the number of records falls.
-- Assumes nothing.
use Prim.Native.Nat.{ℕ, ◌<◌, ◌≤◌, ◌+◌, ◌*◌, ◌/◌}
use lib.ListN.{length}
use mathlib.Core.Path.{refl, subst}
use borrow.Fn.Kinds.{In, Out}
use borrow.Fn.PlainCycle.{Measures, is, falls, and}
use native.Mathlib.Omega.{arith}
use Rattle.nbt_siblings.specs.Lists.{Sorts}
use Rattle.nbt_siblings.proofs.Sorts.{sorts-one, not-not, row-left, row-right, sorts-two, sorts-join}
use Rattle.nbt_siblings.proofs.Walks.{walk_first}
use Rattle.nbt_siblings.proofs.sorting.sort.Reads as sort
use Rattle.nbt_siblings.proofs.sorting.sort.Kinds as sort-kinds
use Rattle.nbt_siblings.proofs.sorting.+sort.Lts-sort as lts
use Rattle.nbt_siblings.proofs.sorting.merge.Reads as merge-reads
use Rattle.table.proofs.word.Reads as word-reads
use Rattle.nbt_siblings.proofs.sorting.+sort.{statement}
use Rattle.nbt_siblings.proofs.sorting.+sort.Tie.{close}

abbrev μ-sort : Measures 2 sort-kinds.ps ℕ
μ-sort κs a = a.1.1.1.0

abbrev sort-at : ℕ → In 2 sort-kinds.ps
sort-at t = and 2 sort-kinds.ps (is 2 sort-kinds.ps μ-sort t) sort.Pre

abbrev sort-below : ℕ → In 2 sort-kinds.ps
sort-below t = and 2 sort-kinds.ps (falls 2 sort-kinds.ps ◌<◌ μ-sort t) sort.Pre

abbrev On : ℕ → (lts.Claims → In 2 sort-kinds.ps → Out 2 sort-kinds.ps sort-kinds.r → Type 0) → Type 0
On t F = F (word-reads.Asked, word-reads.Learnt, sort-below t, sort.Post, merge-reads.Asked, merge-reads.Learnt) (sort-at t) sort.Post

module _ (t : ℕ) where
  room : (c : On t lts.Then-n-eq1) → 9 * c.args.at + 9 ≤ length c.args.table.now
  room c = (c.requires.1.fit c.args.at (walk_first _ c.args.at c.args.n c.requires.1.some)).room

  returns : On t lts.Need-returns-then-n-eq1
  returns c = sorts-one _ _ _ _ c.args.up _ c.if-n-eq1.true c.word.ensures

  -- both halves have records
  parted : (c : On t lts.Else-n-eq1) → let n = c.args.n in (0 < n / 2) × (n / 2 < n)
  parted c = let some = c.requires.1.some in (omega (arith, c.if-n-eq1.false, some), omega (arith, c.if-n-eq1.false, some))

  abbrev split-of : On t lts.After-sort-left → On t lts.Else-n-eq1
  split-of c = c.before.before

  abbrev left-of : On t lts.After-sort-right → On t lts.After-sort-left
  left-of c = let known = c.before.before in known.before.before

  abbrev right_of : On t lts.After-merge-head → On t lts.After-sort-right
  right_of c = let known = c.before.before in known.before.before

  sort-requires : On t lts.Need-sort-left-requires
  sort-requires c κs =
      let h = parted c.before in
      (omega (arith, h.1, c.requires.0), row-left c.requires.1 _ h)

  sort-requires-2 : On t lts.Need-sort-right-requires
  sort-requires-2 c κs =
      let h = parted (split-of c.before.before.before) in
      (omega (arith, h.0, h.1, c.requires.0), row-right c.requires.1 _ h c.sort-left.ensures)

  merge-requires : On t lts.Need-merge-head-requires
  merge-requires c κs =
      let h = parted (split-of (left-of c.before.before.before)) in
      sorts-two c.requires.1 _ h c.sort-left.ensures c.sort-right.ensures

  done : (c : On t lts.After-merge-head) →
      let a = c.args in
      Sorts a.doc.now a.table.now c.merge-head.new.table a.at a.n a.up c.merge-head.result c.sort-right.result.next
  done c =
      let a = c.args in
      let h = parted (split-of (left-of (right_of c))) in
      subst (λ b. Sorts a.doc.now a.table.now c.merge-head.new.table a.at a.n b c.merge-head.result c.sort-right.result.next) (not-not a.up)
      (sorts-join c.requires.1 _ h c.sort-left.ensures c.sort-right.ensures c.merge-head.ensures)

pub +sort_spec : {M : Type 1} → statement M
+sort_spec =
    close μ-sort λ t.
    lts.spec (word-reads.Asked, word-reads.Learnt, sort-below t, sort.Post, merge-reads.Asked, merge-reads.Learnt) (sort-at t) sort.Post
    (λ c κs. (room t c, omega arith))
    (λ c. refl)
    (returns t)
    (sort-requires t)
    (λ c. omega arith)
    (sort-requires-2 t)
    (λ c. omega arith)
    (merge-requires t)
    (λ c. (done t c.before.before).lists.agree.len)
    (λ c. done t c.before.before)
