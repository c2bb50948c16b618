-- Records are judged one after the other, and each by itself before those in it.
use Rattle.std.proofs.Common.{Ok, Err, nat_eq, refl, sym, ap, subst, ◌∙◌, arith}
use Rattle.std.proofs.lemmas.Result.{err_from_is_err_and}
use Rattle.form.specs.Form.{way_no}
use Rattle.form.specs.Table.{none, node}
use Rattle.nbt_judging.specs.Pieces.{first_twice}
use Rattle.nbt_judging.specs.Steps.{Some}
use Rattle.nbt_judging.proofs.Rows.{rows-family, one_placed}
use Rattle.nbt_judging.proofs.Judging.{rows_bound, walk_start, walk-le, walk_end, walk-one, walk-on, walk_no, walk-next, judged-same, one-refused, one_holds, one-some, one-depth, one-bare, one-within, one-whole}
use Rattle.nbt_judging.proofs.+judged_one_judged.Goals as goal

-- ---- `judged`

pub judged-first_twice-repeat-requires : goal.judged-first_twice-repeat-requires
judged-first_twice-repeat-requires t c = let p = c.requires in λ e. rows-family _ _ _ _ _ p.forest p.rows p.small

pub judged-loop-i-init : goal.judged-loop-i-init
judged-loop-i-init t c =
    let f = c.first_twice-repeat.ensures in
    let a = c.args in
    (refl, λ p. walk_start _ _ _ _ _ _ _ _ p (f.0 ∙ ap (λ x. first_twice a.doc.now x a.n a.end a.list) (sym f.1)))

pub judged-one_judged-requires : goal.judged-one_judged-requires
judged-one_judged-requires t c =
    let i = c.loop-i.invariant in
    let a = c.args in
    let p = subst (λ x. Some a.doc.now x a.list a.n a.end) (sym c.first_twice-repeat.ensures.1) c.requires in
    (omega (arith, c.decreases), walk-one _ _ _ _ _ _ _ _ (i.1 p) c.loop-i-test.true i.0 c.word-next.ensures p.small)

pub judged-returns-in_err-size : goal.judged-returns-in_err-size
judged-returns-in_err-size t c =
    let i = c.loop-i.invariant in
    let e = err_from_is_err_and c.from_residual.result c.from_residual.ensures.1 in
    rw (e.1, e.2)
    (judged-same _ _ _ (Err _) c.first_twice-repeat.ensures.1
    (λ p. walk_no _ _ _ _ _ _ _ _ (i.1 p) c.loop-i-test.true i.0 c.word-next.ensures p.small c.is_at-twice.ensures (Err _) c.in_err-size.ensures.0 refl)
    (c.in_err-size.ensures.1 ∙ i.0 ∙ c.first_twice-repeat.ensures.1))

pub judged-loop-i-preserved : goal.judged-loop-i-preserved
judged-loop-i-preserved t c =
    let i = c.loop-i.invariant in (
      c.in_ok-size.ensures.1 ∙ i.0,
      λ p. walk-next _ _ _ _ _ _ _ _ (i.1 p) c.loop-i-test.true i.0 c.word-next.ensures p.small
          c.is_at-twice.ensures (Ok _) c.in_ok-size.ensures.0 refl,
    )

-- The sum stays small, since what is done is a part of the whole.
pub judged-overflow_add-total : goal.judged-overflow_add-total
judged-overflow_add-total t c =
    let a = c.args in
    let i = c.loop-i.invariant in
    let p = subst (λ x. Some a.doc.now x a.list a.n a.end) (sym c.first_twice-repeat.ensures.1) c.requires in
    let w = walk-next _ _ _ _ _ _ _ _ (i.1 p) c.loop-i-test.true i.0 c.word-next.ensures p.small
    c.is_at-twice.ensures (Ok _) c.in_ok-size.ensures.0 refl in
    omega (arith, walk-le _ _ _ _ _ _ _ _ w, rows_bound (way_no a.way) _ _ _ _ _ p.forest p.small p.rows)

pub judged-loop-i-smaller : goal.judged-loop-i-smaller
judged-loop-i-smaller t c =
    let i = c.loop-i.invariant in
    let a = c.args in
    let p = subst (λ x. Some a.doc.now x a.list a.n a.end) (sym c.first_twice-repeat.ensures.1) c.requires in
    let on = walk-on _ _ _ _ _ _ _ _ (i.1 p) c.loop-i-test.true i.0 c.word-next.ensures in
    omega (arith, on.0, on.1)

pub judged-returns : goal.judged-returns
judged-returns t c =
    judged-same _ _ _ (Ok _) c.first_twice-repeat.ensures.1 (λ p. walk_end _ _ _ _ _ _ _ _ (c.loop-i.invariant.1 p) c.loop-i-test.false)
    (c.loop-i.invariant.0 ∙ c.first_twice-repeat.ensures.1)

-- ---- `one_judged`

pub one_judged-own_fine-requires : goal.one_judged-own_fine-requires
one_judged-own_fine-requires t c = one_placed c.requires

pub one_judged-returns-in_err-own_fine : goal.one_judged-returns-in_err-own_fine
one_judged-returns-in_err-own_fine t c =
    let e = err_from_is_err_and c.from_residual.result c.from_residual.ensures.1 in
    rw (e.1, e.2) (λ p. one-refused _ _ _ _ _ p _ _ _ _ (sym c.in_err-own_fine.ensures), refl)

pub one_judged-own_size-own-requires : goal.one_judged-own_size-own-requires
one_judged-own_size-own-requires t c =
    let p = one_placed c.requires in
    let d = c.requires.small.bytes in
    (p, omega (arith, p.body, d), omega (arith, p.name, d))

pub one_judged-returns-then-end-n : goal.one_judged-returns-then-end-n
one_judged-returns-then-end-n t c =
    (λ p. one-bare _ _ _ _ _ p _ _ _ _ (sym c.in_ok-own_fine.ensures) c.own_size-own.ensures c.if-end-n.true, refl)

pub one_judged-word-elements-requires : goal.one_judged-word-elements-requires
one_judged-word-elements-requires t c = ((one_placed c.requires).room, omega arith)

pub one_judged-word-inner-requires : goal.one_judged-word-inner-requires
one_judged-word-inner-requires t c = ((one_placed c.requires).room, omega arith)

-- Some depth is left, since it holds records and is not refused.
pub one_judged-overflow_sub-left : goal.one_judged-overflow_sub-left
one_judged-overflow_sub-left t c =
    omega (arith, one-depth _ _ _ _ _ c.requires _ _ _ _ (sym c.in_ok-own_fine.ensures) (one_holds _ _ _ _ _ c.requires c.if-end-n.false))

pub one_judged-judged-requires : goal.one_judged-judged-requires
one_judged-judged-requires t c =
    let deeper = one-depth _ _ _ _ _ c.requires _ _ _ _ (sym c.in_ok-own_fine.ensures) (one_holds _ _ _ _ _ c.requires c.if-end-n.false) in
    (omega (arith, c.decreases, deeper), one-some _ _ _ _ _ c.requires (ap (λ x. nat_eq x 9) c.word-elements.ensures))

pub one_judged-returns-in_err-size : goal.one_judged-returns-in_err-size
one_judged-returns-in_err-size t c =
    let e = err_from_is_err_and c.from_residual-in_err-size.result c.from_residual-in_err-size.ensures.1 in
    rw (e.1, e.2) (
      λ p. one-within _ _ _ _ _ p _ _ _ _ (sym c.in_ok-own_fine.ensures) c.own_size-own.ensures (ap (λ x. nat_eq x 9) c.word-elements.ensures)
          c.word-inner.ensures (Err _) c.in_err-size.ensures.0 refl,
      c.in_err-size.ensures.1,
    )

pub one_judged-returns : goal.one_judged-returns
one_judged-returns t c = (
  λ p. one-whole _ _ _ _ _ p _ _ _ _ (sym c.in_ok-own_fine.ensures) c.own_size-own.ensures (ap (λ x. nat_eq x 9) c.word-elements.ensures)
      c.word-inner.ensures (Ok _) c.in_ok-size.ensures.0 (one_holds _ _ _ _ _ c.requires c.if-end-n.false) refl,
  c.in_ok-size.ensures.1,
)

-- The sum stays small, since it is the length of the record's bytes.
pub one_judged-overflow_add-result : goal.one_judged-overflow_add-result
one_judged-overflow_add-result t c =
    let p = c.requires in
    let w = one-whole _ _ _ _ _ p _ _ _ _ (sym c.in_ok-own_fine.ensures) c.own_size-own.ensures (ap (λ x. nat_eq x 9) c.word-elements.ensures)
    c.word-inner.ensures (Ok _) c.in_ok-size.ensures.0 (one_holds _ _ _ _ _ c.requires c.if-end-n.false) refl in
    omega (arith, w.1, rows_bound (way_no c.args.way) _ _ _ _ _ (node p.head p.inner none) p.small p.rows)
