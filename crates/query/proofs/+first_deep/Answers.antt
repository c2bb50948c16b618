-- `query::first_deep` meets its contract: the first record left is passed over where it is fine, and else it is the answer.
-- Assumes nothing.
use Rattle.std.proofs.Common.{◌≡◌, ℕ, Bool, sym, ap, ◌∙◌, arith}
use Rattle.std.proofs.lemmas.Result.{err_from_is_err_and}
use Rattle.form.specs.Table.{holds}
use Rattle.query.proofs.Sides.{first}
use Rattle.query.proofs.Depths.{looks-start, looks-next, looks-end, deep-here, deep-inside, fine-inside, fine-leaf}
use Rattle.query.proofs.+first_deep.Goals as goal

-- Whether a record holds others, from what the calls say.
holding : {k w : ℕ} {r b : Bool} → k ≡ w → r ≡ holds k → r ≡ b → holds w ≡ b
holding x y z = ap holds (sym x) ∙ sym y ∙ z

pub loop-i-init : goal.loop-i-init
loop-i-init t c = looks-start _ _ _ _ _ c.requires.0.1

pub returns-then-left-eq0 : goal.returns-then-left-eq0
returns-then-left-eq0 t c =
    let l = c.loop-i.invariant in
    let f = first _ _ _ _ l.here c.loop-i-test.true in
    let holds = holding c.word.ensures c.is_container.ensures c.if-is_container.true in
    λ d g. sym (l.goes d g ∙ deep-here _ _ _ _ _ l.here f holds c.if-left-eq0.true)

pub first_deep-requires : goal.first_deep-requires
first_deep-requires t c =
    let l = c.loop-i.invariant in
    let f = first _ _ _ _ l.here c.loop-i-test.true in
    let to = f.to in
    let some = c.if-left-eq0.false in
    let long = c.requires.1 in
    let past = c.word-next.ensures in
    (omega arith, ((l.d, rw past f.inner), omega arith))

pub returns-in_err-first_deep : goal.returns-in_err-first_deep
returns-in_err-first_deep t c =
    let l = c.loop-i.invariant in
    let f = first _ _ _ _ l.here c.loop-i-test.true in
    let past = c.word-next.ensures in
    let some = c.if-left-eq0.false in
    let inside = c.first_deep.ensures l.d (rw past f.inner) in
    let p = err_from_is_err_and c.from_residual.result c.from_residual.ensures.1 in
    λ d g. rw (p.1, p.2) (sym (l.goes d g ∙ deep-inside _ _ _ _ _ l.here f (omega arith) c.first_deep.result _ inside c.in_err-first_deep.was))

pub loop-i-smaller-in_ok-first_deep : goal.loop-i-smaller-in_ok-first_deep
loop-i-smaller-in_ok-first_deep t c =
    let f = first _ _ _ _ c.loop-i.invariant.here c.loop-i-test.true in
    let on = f.on in
    let past = c.word-next.ensures in
    omega arith

pub loop-i-preserved-in_ok-first_deep : goal.loop-i-preserved-in_ok-first_deep
loop-i-preserved-in_ok-first_deep t c =
    let l = c.loop-i.invariant in
    let f = first _ _ _ _ l.here c.loop-i-test.true in
    let past = c.word-next.ensures in
    let some = c.if-left-eq0.false in
    let inside = c.first_deep.ensures l.d (rw past f.inner) in
    rw past (looks-next _ _ _ _ _ l f (fine-inside _ _ _ _ _ l.here f (omega arith) c.first_deep.result inside c.in_ok-first_deep.was))

pub loop-i-smaller : goal.loop-i-smaller
loop-i-smaller t c =
    let f = first _ _ _ _ c.loop-i.invariant.here c.loop-i-test.true in
    let on = f.on in
    let past = c.word-next.ensures in
    omega arith

pub loop-i-preserved : goal.loop-i-preserved
loop-i-preserved t c =
    let l = c.loop-i.invariant in
    let f = first _ _ _ _ l.here c.loop-i-test.true in
    let leaf = holding c.word.ensures c.is_container.ensures c.if-is_container.false in
    rw c.word-next.ensures (looks-next _ _ _ _ _ l f (fine-leaf _ _ _ _ _ l.here f leaf))

pub returns : goal.returns
returns t c =
    let l = c.loop-i.invariant in
    λ d g. sym (l.goes d g ∙ looks-end _ _ _ _ _ l c.loop-i-test.false)
