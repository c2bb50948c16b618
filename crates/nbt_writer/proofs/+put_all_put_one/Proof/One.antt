-- What `put_one` leaves to show: the name, then the payload by kind.
-- Assumes nothing.
use Prim.Native.Nat.{ℕ, ◌*◌, ◌≤◌, ◌<◌}
use mathlib.Core.Path.{◌≡◌, sym, ◌∙◌}
use native.Mathlib.Omega.{arith}
use borrow.Fn.Kinds.{In, Out}
use lib.ListN.{length}
use Rattle.form.specs.Table.{word as word_of}
use Rattle.nbt_writer.proofs.Puts.{puts-length}
use Rattle.nbt_judging.proofs.Rows.{one_placed, one-next, rows-to}
use Rattle.nbt_writer.proofs.Putting.{name-room, leaf_room, put-leaf as leaf-put, list-room, list-some, put-list as list_put, compound-some, end-room, put-compound}
use Rattle.nbt_writer.proofs.put_all.Reads as put_all
use Rattle.nbt_writer.proofs.put_one.Reads as put_one
use Rattle.nbt_writer.proofs.put_one.Kinds as kinds
use Rattle.table.proofs.word.Reads as word
use Rattle.nbt_writer.proofs.put_name.Reads as put-name
use Rattle.nbt_writer.proofs.put_list.Reads as put-list
use Rattle.nbt_writer.proofs.put_leaf.Reads as put-leaf
use Rattle.raw.proofs.put_number.Reads as put-number
use Rattle.nbt_writer.proofs.+put_all_put_one.Lts-put_one as lts
use Rattle.nbt_writer.proofs.+put_all_put_one.Proof.Common.{put_all-below, put_one-at}

-- What the calls ask and give.
abbrev pub claims : ℕ → lts.Claims
claims t = (
  put-name.Asked,
  put-name.Learnt,
  word.Asked,
  word.Learnt,
  put-list.Asked,
  put-list.Learnt,
  put_all-below t,
  put_all.Post,
  put-number.Asked,
  put-number.Learnt,
  put-leaf.Asked,
  put-leaf.Learnt,
)

abbrev On : ℕ → (lts.Claims → In 3 kinds.ps → Out 3 kinds.ps kinds.r → Type 0) → Type 0
On t F = F (claims t) (put_one-at t) put_one.Post

module _ (t : ℕ) where
  -- It has a record more than the records in it.
  more : (c : On t lts.Start) → (c.args.n < c.args.end) × (9 * c.args.end ≤ length c.args.table.now)
  more c = let o = c.requires.1.one in (omega (arith, rows-to _ _ _ _ _ o.head o.inner o.rows), o.rows.fits)

  pub put-name-requires : On t lts.Need-put_name-from-requires
  put-name-requires c κs =
      let o = c.requires.1.one in
      (one_placed o, omega (arith, (one_placed o).name, o.small.bytes), name-room _ _ _ _ _ _ _ _ c.requires.1)

  pub word-requires : On t lts.Need-word-requires
  word-requires c κs =
      ((one_placed c.requires.1.one).room, omega arith)

  -- ---- a list

  is-list : (c : On t lts.In-9) → let a = c.args in word_of a.table.now a.n 0 ≡ 9
  is-list c = sym c.word.ensures ∙ c.in-9.is

  pub put-list-requires : On t lts.Need-put_list-first-requires
  put-list-requires c κs =
      ((one_placed c.requires.1.one).room, list-room _ _ _ _ _ _ _ _ c.requires.1 c.put_name-from.ensures (is-list c.before))

  pub add-put-all : On t lts.Need-overflow_add-n
  add-put-all c =
      omega (arith, one-next c.requires.1.one)

  pub put-all-requires : On t lts.Need-put_all-requires
  put-all-requires c κs =
      let further = more c.before.before.before.before.before.before.before.before.before.before.before.before.before.before in
      (omega (arith, c.requires.0, further.0), list-some _ _ _ _ _ _ _ _ c.requires.1 c.put_name-from.ensures (is-list c.before.before.before.before.before) c.put_list-first.ensures)

  pub returns : On t lts.Need-returns-in-9
  returns c =
      λ p. list_put _ _ _ _ _ _ _ _ p c.put_name-from.ensures (is-list c.before.before.before.before.before.before.before.before) c.put_list-first.ensures c.put_all.ensures

  pub same_length : On t lts.Need-shape_of-out-in-9
  same_length c =
      let p = c.requires.1 in
      puts-length (returns c p) p.room

  -- ---- a compound

  is-compound : (c : On t lts.In-10) → let a = c.args in word_of a.table.now a.n 0 ≡ 10
  is-compound c = sym c.word.ensures ∙ c.in-10.is

  pub add-put-all-2 : On t lts.Need-overflow_add-n-in-10
  add-put-all-2 c = omega (arith, one-next c.requires.1.one)

  pub put-all-requires-2 : On t lts.Need-put_all-last-requires
  put-all-requires-2 c κs =
      let further = more c.before.before.before.before.before.before.before.before.before.before in
      (omega (arith, c.requires.0, further.0), compound-some _ _ _ _ _ _ _ _ c.requires.1 c.put_name-from.ensures (is-compound c.before))

  pub put-number-requires : On t lts.Need-put_number-requires
  put-number-requires c κs =
      (omega arith, end-room _ _ _ _ _ _ _ _ c.requires.1 c.put_name-from.ensures (is-compound c.before.before.before.before.before) c.put_all-last.ensures)

  pub returns-2 : On t lts.Need-returns-in-10
  returns-2 c =
      λ p. put-compound _ _ _ _ _ _ _ _ p c.put_name-from.ensures (is-compound c.before.before.before.before.before.before.before.before) c.put_all-last.ensures c.put_number.ensures

  pub add-result : On t lts.Need-overflow_add-result
  add-result c =
      let p = c.requires.1 in
      omega (arith, (returns-2 c p).next, p.room, c.well_formed)

  pub same-length-2 : On t lts.Need-shape_of-out-in-10
  same-length-2 c =
      let p = c.requires.1 in
      puts-length (returns-2 c p) p.room

  -- ---- a leaf

  pub put-leaf-requires : On t lts.Need-put_leaf-requires
  put-leaf-requires c κs =
      let other = c.in_default.in_default-own.rest in
      let e = c.word.ensures in
      let o = c.requires.1.one in (
        one_placed o,
        omega (arith, (one_placed o).body, o.small.bytes),
        leaf_room _ _ _ _ _ _ _ _ c.requires.1 c.put_name-from.ensures (λ q. other.0.1 (e ∙ q)) (λ q. other.1 (e ∙ q)),
      )

  pub returns-3 : On t lts.Need-returns-in_default
  returns-3 c =
      let other = c.in_default.in_default-own.rest in
      let e = c.word.ensures in
      λ p. leaf-put _ _ _ _ _ _ _ _ p c.put_name-from.ensures (λ q. other.0.1 (e ∙ q)) (λ q. other.1 (e ∙ q)) c.put_leaf.ensures

  pub same-length-3 : On t lts.Need-shape_of-out-in_default
  same-length-3 c =
      let p = c.requires.1 in
      puts-length (returns-3 c p) p.room
