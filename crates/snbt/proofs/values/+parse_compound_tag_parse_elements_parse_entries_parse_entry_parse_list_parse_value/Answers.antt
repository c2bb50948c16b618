-- Each way through the code is a law of the definition, over what the calls have answered.
-- Assumes nothing.
use Rattle.std.proofs.Common.{◌<◌, length, refl, sym, ap, ◌∙◌, arith}
use Rattle.std.specs.Prelude.{Ok, Err}
use Rattle.std.proofs.lemmas.Result.{err_from_is_err_and}
use Rattle.snbt_form.specs.Text.{sign_of, value_at}
use Rattle.snbt_tokens.specs.Answers.{token_is, stops_is, last_is}
use Rattle.snbt_due.proofs.Reading.{from-no, from-ended}
use Rattle.snbt_due.proofs.Steps.{met_at}
use Rattle.snbt_due.proofs.Spanning.{met-spanned}
use Rattle.snbt.specs.Turns.{inner, block_value}
use Rattle.snbt.proofs.Reading.{compound-deep, compound-full}
use Rattle.snbt.proofs.Held.{no-curly, no-square, by-compound, by-list, by_scalar, behind-token}
use Rattle.snbt.proofs.Listing.{list-array, list-whole, listing_start, listing-no, listing-end, listing-value-no, listing-more}
use Rattle.snbt.proofs.Entering.{entering-start, entering-no, entering-more, entering-last, compound-entries}
use Rattle.snbt.proofs.Naming.{entry-end, entry-comes, entry-settled}
use Rattle.snbt.proofs.values.+parse_compound_tag_parse_elements_parse_entries_parse_entry_parse_list_parse_value.Goals as goal

-- ---- a compound: with a container left and room, it is the entries

pub parse_compound_tag-returns-then-left-eq0 : goal.parse_compound_tag-returns-then-left-eq0
parse_compound_tag-returns-then-left-eq0 t c =
    let a = c.args in
    ap block_value (compound-deep a.text.now (length a.out.now) a.left (inner a.text.now (length a.out.now) a.left) a.brace.0 a.next a.at c.if-left-eq0.true)

pub parse_compound_tag-returns-then-out-at : goal.parse_compound_tag-returns-then-out-at
parse_compound_tag-returns-then-out-at t c =
    let a = c.args in
    let val = inner a.text.now (length a.out.now) a.left in
    ap block_value (compound-full a.text.now (length a.out.now) a.left val a.brace.0 a.next a.at c.if-left-eq0.false c.if-out-at.true)

pub parse_compound_tag-returns : goal.parse_compound_tag-returns
parse_compound_tag-returns t c =
    let a = c.args in
    let r = c.parse_entries in
    compound-entries a.text.now a.out.now a.keys.now (record { brace = a.brace; base = a.top }) a.next a.at a.left
    r.result r.new.out r.new.keys c.if-left-eq0.false (omega (arith, c.if-out-at.false)) r.ensures

-- ---- the elements of a list

pub parse_elements-loop-next-init : goal.parse_elements-loop-next-init
parse_elements-loop-next-init t c =
    let a = c.args in
    let p = c.requires in
    (listing_start a.text.now a.out.now a.keys.now a.kind a.start a.at a.top a.left p.2 p.1 p.3, refl, refl)

pub parse_elements-returns-in_err-next : goal.parse_elements-returns-in_err-next
parse_elements-returns-in_err-next t c =
    let p = err_from_is_err_and c.from_residual.result c.from_residual.ensures.1 in
    rw (p.1, p.2) (listing-no c.loop-next.invariant.0 c.in_err-next.field-0.0 c.in_err-next.ensures)

pub parse_elements-returns-in-End : goal.parse_elements-returns-in-End
parse_elements-returns-in-End t c = listing-end c.loop-next.invariant.0 c.in-End.next (rw c.in-End.is at c.in_ok-next.ensures)

pub parse_elements-returns-in_err-done-in-Is : goal.parse_elements-returns-in_err-done-in-Is
parse_elements-returns-in_err-done-in-Is t c =
    let r = c.from_residual-in_err-done-in-Is in
    let p = err_from_is_err_and r.result r.ensures.1 in
    rw (p.1, p.2) (listing-value-no c.loop-next.invariant.0 _ (rw c.in-Is.is at c.in_ok-next.ensures) _ _ c.in_err-done-in-Is.ensures)

pub parse_elements-loop-next-preserved : goal.parse_elements-loop-next-preserved
parse_elements-loop-next-preserved t c =
    let i = c.loop-next.invariant in
    let d = c.in_ok-done-in-Is in
    (listing-more i.0 _ (rw c.in-Is.is at c.in_ok-next.ensures) _ _ d.done d.ensures, c.parse_value.auto.keys ∙ i.1, c.parse_value.auto.buffer ∙ i.2)

-- ---- the entries of a compound

pub parse_entries-loop-index-init : goal.parse_entries-loop-index-init
parse_entries-loop-index-init t c =
    let a = c.args in
    let p = c.requires in
    (entering-start a.text.now a.out.now a.keys.now a.block a.next a.at a.left p.2 (omega (arith, p.4, p.1, p.0.keys_ge)) p.1 p.3 p.4, refl, refl)

pub parse_entries-returns-in_err-index : goal.parse_entries-returns-in_err-index
parse_entries-returns-in_err-index t c =
    let n = c.parse_entry.new in
    let p = err_from_is_err_and c.from_residual.result c.from_residual.ensures.1 in
    rw (p.1, p.2) (entering-no c.loop-index.invariant.0 c.in_err-index.field-0.0 n.out n.keys n.out n.keys c.in_err-index.ensures)

pub parse_entries-returns-in-Last : goal.parse_entries-returns-in-Last
parse_entries-returns-in-Last t c =
    let n = c.parse_entry.new in
    entering-last c.loop-index.invariant.0 n.out n.keys c.close.new.out _ _ _ c.close.result (rw c.in-Last.is at c.in_ok-index.ensures) c.close.ensures

pub parse_entries-loop-index-preserved : goal.parse_entries-loop-index-preserved
parse_entries-loop-index-preserved t c =
    let i = c.loop-index.invariant in
    (entering-more i.0 _ _ _ _ _ (rw c.in-More.is at c.in_ok-index.ensures), c.parse_entry.auto.keys ∙ i.1, c.parse_entry.auto.buffer ∙ i.2)

-- ---- an entry

pub parse_entry-returns-in-End : goal.parse_entry-returns-in-End
parse_entry-returns-in-End t c =
    let a = c.args in
    let p = c.requires in
    entry-end a.text.now a.out.now a.keys.now a.block (last_is a.last) a.place a.at a.top a.left c.key_at.new.buffer
    c.in-End.index c.in-End.next (rw c.in-End.is at c.in_ok-index.ensures) p.4.second.within p.2

pub parse_entry-settle-requires : goal.parse_entry-settle-requires
parse_entry-settle-requires t c =
    let a = c.args in
    let p = c.requires in
    let key = rw c.in-Is.is at c.in_ok-index.ensures in
    let room : a.top < length a.keys.now = omega (arith, p.3, key.fit.far, key.fit.within, p.0.keys_ge) in
    let n = c.put_name in
    let v = c.parse_value in
    let w = c.in_ok-v-in-Is.ensures in (
      w.1.within,
      omega (arith, w.0.fits, w.0.size_is, v.auto.out, n.auto.out),
      omega (arith, p.2, p.1, p.0.text_le),
      entry-comes a.text.now a.out.now a.keys.now a.block (last_is a.last) a.place a.at a.top a.left _ _ _ _ p.4 room key
          n.new.out v.new.out _ v.new.keys _ _ _ n.auto.out v.auto.keys n.ensures w.0 w.1 refl,
    )

pub parse_entry-returns-in_ok-v-in-Is : goal.parse_entry-returns-in_ok-v-in-Is
parse_entry-returns-in_ok-v-in-Is t c =
    let a = c.args in
    let p = c.requires in
    let key = rw c.in-Is.is at c.in_ok-index.ensures in
    let room : a.top < length a.keys.now = omega (arith, p.3, key.fit.far, key.fit.within, p.0.keys_ge) in
    let n = c.put_name in
    let v = c.parse_value in
    let f = c.settle in
    let w = c.in_ok-v-in-Is.ensures in
    entry-settled a.text.now a.out.now a.keys.now a.block (last_is a.last) a.place a.at a.top a.left _ _ _ _ p.4 room key
    n.new.out v.new.out f.new.out v.new.keys _ _ _ n.auto.out v.auto.keys n.ensures w.0 w.1 f.ensures.wrote f.new.keys
    f.ensures.put f.result f.ensures.is

-- ---- a list

pub parse_list-returns-in-Array : goal.parse_list-returns-in-Array
parse_list-returns-in-Array t c =
    let a = c.args in
    let r = c.parse_prim_list in
    list-array a.text.now a.out.now a.keys.now a.brace.0 a.next a.at a.top a.left c.requires.2 _ _
    r.result r.new.out (rw c.in-Array.is at c.in_ok-width.ensures) r.ensures.is r.ensures.moves

pub parse_list-returns-in_ok-rest-in-First : goal.parse_list-returns-in_ok-rest-in-First
parse_list-returns-in_ok-rest-in-First t c =
    let a = c.args in
    let w = c.in_ok-first-in-First.ensures in
    let v = c.parse_value.new in
    let e = c.parse_elements.new in
    let r = c.in_ok-rest-in-First in
    list-whole a.text.now a.out.now a.keys.now a.brace.0 a.next a.at a.top a.left c.requires.2 (rw c.in-First.is at c.in_ok-width.ensures)
    v.out v.keys _ _ _ w.0 w.1 e.out c.put_head.new.out e.keys r.rest r.ensures c.put_head.ensures

-- ---- a value, by its first token

pub parse_value-returns-in_err-token_at : goal.parse_value-returns-in_err-token_at
parse_value-returns-in_err-token_at t c =
    let a = c.args in
    let p = err_from_is_err_and c.from_residual.result c.from_residual.ensures.1 in
    rw (p.1, p.2)
    (from-no a.text.now (length a.out.now) (value_at a.text.now (length a.out.now) a.left) (stops_is a.set) a.want a.place a.at _ _ (sym c.in_err-token_at.ensures))

pub parse_value-returns-in-Ended : goal.parse_value-returns-in-Ended
parse_value-returns-in-Ended t c =
    let a = c.args in
    from-ended a.text.now (length a.out.now) (value_at a.text.now (length a.out.now) a.left) (stops_is a.set) a.want a.place a.at _
    (sym (rw c.in-Ended.is at c.in_ok-token_at.ensures))

pub parse_value-parse_compound_tag-requires : goal.parse_value-parse_compound_tag-requires
parse_value-parse_compound_tag-requires t c =
    let a = c.args in
    let p = c.requires in
    let is = sym (rw c.in-Found.is at c.in_ok-token_at.ensures) in
    let z = behind-token _ a.out.now a.keys.now _ a.want _ a.at a.top a.left _ _ is p.1 p.2 p.3 in
    (omega (arith, c.decreases), (p.0, z.0, omega (arith, z.1), z.2))

pub parse_value-parse_list-requires : goal.parse_value-parse_list-requires
parse_value-parse_list-requires t c =
    let a = c.args in
    let p = c.requires in
    let is = sym (rw c.in-Found.is at c.in_ok-token_at.ensures) in
    let z = behind-token _ a.out.now a.keys.now _ a.want _ a.at a.top a.left _ _ is p.1 p.2 p.3 in
    (omega (arith, c.decreases), (p.0, z.0, z.1, z.2))

pub parse_value-scalar-requires : goal.parse_value-scalar-requires
parse_value-scalar-requires t c = met-spanned (met_at _ _ _ _ _ (sym (rw c.in-Found.is at c.in_ok-token_at.ensures)) c.requires.1)

pub parse_value-returns-in_err-done-in-OpenCurly : goal.parse_value-returns-in_err-done-in-OpenCurly
parse_value-returns-in_err-done-in-OpenCurly t c =
    let a = c.args in
    let r = c.parse_compound_tag.new in
    let x = c.in_err-done-in-OpenCurly in
    let p = err_from_is_err_and c.from_residual-in_err-done-in-OpenCurly.result c.from_residual-in_err-done-in-OpenCurly.ensures.1 in
    rw (p.1, p.2)
    (by-compound a.text.now a.out.now a.keys.now (stops_is a.set) a.want a.place a.at a.top a.left _ _ (sym (rw c.in-Found.is at c.in_ok-token_at.ensures)) c.requires.1
    (Err x.field-0.0) (Err x.field-0.0) r.out r.keys (ap (λ k. sign_of (token_is k)) c.in-OpenCurly.is) x.ensures refl)

pub parse_value-returns-in_ok-done-in-OpenCurly : goal.parse_value-returns-in_ok-done-in-OpenCurly
parse_value-returns-in_ok-done-in-OpenCurly t c =
    let a = c.args in
    let r = c.parse_compound_tag.new in
    let d = c.in_ok-done-in-OpenCurly in
    by-compound a.text.now a.out.now a.keys.now (stops_is a.set) a.want a.place a.at a.top a.left _ _ (sym (rw c.in-Found.is at c.in_ok-token_at.ensures)) c.requires.1
    (Ok d.done) c.alike.result r.out r.keys (ap (λ k. sign_of (token_is k)) c.in-OpenCurly.is) d.ensures c.alike.ensures

pub parse_value-returns-in_err-done-in-OpenSquare : goal.parse_value-returns-in_err-done-in-OpenSquare
parse_value-returns-in_err-done-in-OpenSquare t c =
    let a = c.args in
    let r = c.parse_list.new in
    let x = c.in_err-done-in-OpenSquare in
    let p = err_from_is_err_and c.from_residual-in_err-done-in-OpenSquare.result c.from_residual-in_err-done-in-OpenSquare.ensures.1 in
    rw (p.1, p.2)
    (by-list a.text.now a.out.now a.keys.now (stops_is a.set) a.want a.place a.at a.top a.left _ _ (sym (rw c.in-Found.is at c.in_ok-token_at.ensures)) c.requires.1
    (Err x.field-0.0) (Err x.field-0.0) r.out r.keys (ap (λ k. sign_of (token_is k)) c.in-OpenSquare.is) x.ensures refl)

pub parse_value-returns-in_ok-done-in-OpenSquare : goal.parse_value-returns-in_ok-done-in-OpenSquare
parse_value-returns-in_ok-done-in-OpenSquare t c =
    let a = c.args in
    let r = c.parse_list.new in
    let d = c.in_ok-done-in-OpenSquare in
    by-list a.text.now a.out.now a.keys.now (stops_is a.set) a.want a.place a.at a.top a.left _ _ (sym (rw c.in-Found.is at c.in_ok-token_at.ensures)) c.requires.1
    (Ok d.done) c.alike-in-OpenSquare.result r.out r.keys (ap (λ k. sign_of (token_is k)) c.in-OpenSquare.is) d.ensures c.alike-in-OpenSquare.ensures

pub parse_value-returns-in_default : goal.parse_value-returns-in_default
parse_value-returns-in_default t c =
    let a = c.args in
    let x = c.in-Found.td.token in
    by_scalar a.text.now a.out.now a.keys.now (stops_is a.set) a.want a.place a.at a.top a.left _ _ (sym (rw c.in-Found.is at c.in_ok-token_at.ensures)) c.requires.1
    c.scalar.result c.scalar.new.out c.requires.2 (no-curly x c.in_default.not-OpenCurly) (no-square x c.in_default.not-OpenSquare) c.scalar.ensures
