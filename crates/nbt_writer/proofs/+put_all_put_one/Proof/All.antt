-- What `put_all` leaves to show. The invariant: whichever records stand there, the bytes of those so far are written.
-- Assumes nothing.
use Prim.Native.Nat.{ℕ, ◌-◌, ◌≤◌}
use native.Mathlib.Omega.{arith}
use borrow.Fn.Kinds.{In, Out}
use Rattle.form.specs.Form.{way_no}
use Rattle.nbt_writer.specs.Steps.{SomeRoom}
use Rattle.nbt_writer.proofs.Putting.{Course, course-start, course-length, course-end, course-on, course-one, course-next}
use Rattle.nbt_writer.proofs.put_all.Reads as put_all_lem
use Rattle.nbt_writer.proofs.put_all.Kinds as kinds
use Rattle.nbt_writer.proofs.put_one.Reads as put_one
use Rattle.table.proofs.word.Reads as word
use Rattle.nbt_writer.proofs.+put_all_put_one.Lts-put_all as lts
use Rattle.nbt_writer.proofs.+put_all_put_one.Proof.Common.{put_all-at, put_one-below}

abbrev pub Inv-loop : lts.invariant-loop-i
Inv-loop doc table n end list out₀ at way i₀ here₀ out i here =
    (n ≤ i) × ((p : SomeRoom (way_no way) doc table list n end out₀ at) → Course (way_no way) doc table list end p.some.forest out₀ at out i here)

abbrev pub μ-loop : lts.decreases-loop-i
μ-loop doc table n end list out₀ at way i₀ here₀ out i here = end - i

-- What the calls ask and give.
abbrev pub claims : ℕ → lts.Claims
claims t = (word.Asked, word.Learnt, put_one-below t, put_one.Post)

abbrev On : ℕ → (lts.Claims → In 3 kinds.ps → Out 3 kinds.ps kinds.r → lts.invariant-loop-i → lts.decreases-loop-i → Type 0) → Type 0
On t F = F (claims t) (put_all-at t) put_all_lem.Post Inv-loop μ-loop

module _ (t : ℕ) where
  pub loop-holds : On t lts.Need-loop-i-init
  loop-holds c = (omega arith, λ p. course-start _ _ _ _ _ _ _ p)

  -- How far the walk has come.
  course : (c : On t lts.At-loop-i) →
      let a = c.args in
      Course (way_no a.way) a.doc.now a.table.now a.list a.end c.requires.1.some.forest a.out.now a.at c.loop-i.out c.loop-i.i c.loop-i.here
  course c = c.loop-i.invariant.1 c.requires.1

  pub word-requires : On t lts.Need-word-next-requires
  word-requires c κs = (omega (arith, (course c.before).rows.fits, c.loop-i-test.true), omega arith)

  pub put-one-requires : On t lts.Need-put_one-here-requires
  put-one-requires c κs =
      let p = c.requires in
      let e = c.word-next.ensures in
      let i = c.loop-i-test.true in
      let on = course-on _ _ _ _ _ _ _ (course c.before.before.before) i e in
      (omega (arith, p.0, on.0, on.1, c.loop-i.invariant.0), course-one _ _ _ _ _ _ _ (course c.before.before.before) i e p.1.some.small)

  pub loop-less : On t lts.Need-loop-i-smaller
  loop-less c =
      let on = course-on _ _ _ _ _ _ _ (course c.before.before.before.before.before.before) c.loop-i-test.true c.word-next.ensures in
      omega (arith, on.0, on.1)

  pub loop-again : On t lts.Need-loop-i-preserved
  loop-again c =
      let i = c.loop-i-test.true in
      let e = c.word-next.ensures in
      let on = course-on _ _ _ _ _ _ _ (course c.before.before.before.before.before.before) i e in
      (omega (arith, on.0, c.loop-i.invariant.0), λ p. course-next _ _ _ _ _ _ _ (c.loop-i.invariant.1 p) i e p.some.small c.put_one-here.ensures)

  pub same_length : On t lts.Need-shape_of-out
  same_length c = course-length _ _ _ _ _ _ _ (course c.before)

  pub returns : On t lts.Need-returns
  returns c = λ p. course-end _ _ _ _ _ _ _ (c.loop-i.invariant.1 p) c.loop-i-test.false
