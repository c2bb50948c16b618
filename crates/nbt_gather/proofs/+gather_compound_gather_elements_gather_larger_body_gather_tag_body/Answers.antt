-- Each way through the code is a law of what is read and of what is kept.
-- Assumes nothing.
use Rattle.std.proofs.Common.{ℕ, suc, ◌-◌, ◌<◌, List, length, ◌≡◌, true, refl, sym, ap, arith}
use Rattle.form.specs.Form.{Form}
use Rattle.form.specs.Table.{none, holds}
use Rattle.form.specs.Reading.{entries as entries_of}
use Rattle.form.proofs.Fields.{list-head-within, entry-within, entry_in}
use Rattle.form.proofs.Payloads.{room-le}
use Rattle.form.proofs.Runs.{sofar-length, elements-none, elements-no, elements-next, entries-head-no, entries-end, entries-no, entries_next}
use Rattle.nbt_reader.proofs.Steps.{holds_not, holds-below}
use Rattle.nbt_gather.specs.Steps.{OnlyCut, ElementsAsked, EntriesAsked, read_in}
use Rattle.nbt_gather.proofs.Parts.{positive}
use Rattle.nbt_gather.proofs.Containers.{leaf-piece}
use Rattle.nbt_gather.proofs.Asked.{asked-room, asked-deep, entries-asked, elements-asked, side-small, held-asked, compound-piece, list-head-piece, list-piece}
use Rattle.nbt_gather.proofs.Runs.{gathering-start, gathering-next, gathering-end, gathering-none, gathering-open, only-left, done-small, begun-width}
use Rattle.nbt_gather.proofs.Runs.{at-end, element-only, element-kept, element-begun, element-none, payload-asked, piece-whole, piece_cut}
use Rattle.nbt_gather.proofs.Runs.{cut_of, entries-some, entry-only, entry_kept, entry-begun, entry-none}
use Rattle.nbt_gather.proofs.+gather_compound_gather_elements_gather_larger_body_gather_tag_body.Invariants.{ElementsKept, EntriesKept}
use Rattle.nbt_gather.proofs.+gather_compound_gather_elements_gather_larger_body_gather_tag_body.Goals as goal

-- ---- a payload: kinds 1 to 6 hold no records

pub gather_tag_body-gather_fixed-requires : goal.gather_tag_body-gather_fixed-requires
gather_tag_body-gather_fixed-requires t c = (c.requires.named, asked-room _ c.requires, omega (arith, c.if-kind-le-DOUBLE.true))

pub gather_tag_body-returns-then-kind-le-DOUBLE : goal.gather_tag_body-returns-then-kind-le-DOUBLE
gather_tag_body-returns-then-kind-le-DOUBLE t c =
    leaf-piece _ _ _ _ _ _ _ _ _ _ _ _ _ _ _ c.gather_fixed.result (c.gather_fixed.ensures _)
    (holds-below c.args.kind (omega (arith, c.if-kind-le-DOUBLE.true))) c.requires.only (omega arith)

-- ---- a list

listed : (k : ℕ) → k ≡ 9 → holds k ≡ true
listed k e = rw e refl

pub gather_larger_body-returns-in-Err : goal.gather_larger_body-returns-in-Err
gather_larger_body-returns-in-Err t c =
    list-head-piece _ c.requires.0 (listed _ c.in-9.is) c.in-9.is _ (sym c.in-Err.ensures) (omega arith)

pub gather_larger_body-overflow_sub-below : goal.gather_larger_body-overflow_sub-below
gather_larger_body-overflow_sub-below t c = positive _ (asked-deep _ c.requires.0 (listed _ c.in-9.is))

pub gather_larger_body-gather_elements-s-requires : goal.gather_larger_body-gather_elements-s-requires
gather_larger_body-gather_elements-s-requires t c =
    let asked = c.requires.0 in
    (omega (arith, positive _ (asked-deep _ asked (listed _ c.in-9.is))), elements-asked _ asked (listed _ c.in-9.is) c.in-9.is (sym c.in-Ok.ensures))

pub gather_larger_body-held-requires : goal.gather_larger_body-held-requires
gather_larger_body-held-requires t c =
    let s = c.gather_elements-s in
    held-asked _ c.requires.0 (side-small _ _ _ _ _ _ _ _ _ _ _ _ _ s.result s.ensures) s.auto.table s.auto.lines
    (omega (arith, (list-head-within _ _ _ (sym c.in-Ok.ensures)).2)) (omega arith)

pub gather_larger_body-returns-in-Ok : goal.gather_larger_body-returns-in-Ok
gather_larger_body-returns-in-Ok t c =
    let s = c.gather_elements-s in
    list-piece _ c.requires.0 (listed _ c.in-9.is) _ _ _ _ s.result c.held.result c.in-9.is (sym c.in-Ok.ensures) s.ensures c.held.ensures

-- ---- a compound

named : (k : ℕ) → k ≡ 10 → holds k ≡ true
named k e = rw e refl

pub gather_larger_body-overflow_sub-depth : goal.gather_larger_body-overflow_sub-depth
gather_larger_body-overflow_sub-depth t c = positive _ (asked-deep _ c.requires.0 (named _ c.in-10.is))

pub gather_larger_body-gather_compound-s-requires : goal.gather_larger_body-gather_compound-s-requires
gather_larger_body-gather_compound-s-requires t c =
    let asked = c.requires.0 in
    (omega (arith, positive _ (asked-deep _ asked (named _ c.in-10.is))), entries-asked _ asked (named _ c.in-10.is) c.in-10.is)

pub gather_larger_body-held-requires-in-10 : goal.gather_larger_body-held-requires-in-10
gather_larger_body-held-requires-in-10 t c =
    let s = c.gather_compound-s in
    held-asked _ c.requires.0 (side-small _ _ _ _ _ _ _ _ _ _ _ _ _ s.result s.ensures) s.auto.table s.auto.lines (omega arith) (omega arith)

pub gather_larger_body-returns-in-10 : goal.gather_larger_body-returns-in-10
gather_larger_body-returns-in-10 t c =
    let s = c.gather_compound-s in
    compound-piece _ c.requires.0 (named _ c.in-10.is) _ _ _ _ s.result c.held-in-10.result c.in-10.is s.ensures c.held-in-10.ensures

-- ---- a leaf

pub gather_larger_body-gather_leaf-requires : goal.gather_larger_body-gather_leaf-requires
gather_larger_body-gather_leaf-requires t c = (c.requires.0.named, asked-room _ c.requires.0, c.requires.1)

pub gather_larger_body-returns-in_default : goal.gather_larger_body-returns-in_default
gather_larger_body-returns-in_default t c =
    leaf-piece _ _ _ _ _ _ _ _ _ _ _ _ _ _ _ c.gather_leaf.result c.gather_leaf.ensures
    (holds_not c.args.kind (λ e. omega (arith, e)) (λ e. omega (arith, e))) c.requires.0.only (omega arith)

-- ---- a list's elements

module _ {form : Form} {doc t₀ ls₀ t ls : List ℕ} {kind count at depth n most here next done : ℕ}
    (i : ElementsKept form doc kind count at depth t₀ n ls₀ t ls here next done) (r : ElementsAsked form doc t₀ depth count kind at n ls₀ most) where
  module _ (h : done < count) where
    -- There is a next element, and it is read or refused with 1.
    some : 0 < i.left
    some = omega (arith, i.left_is, h)

    only : OnlyCut (read_in form doc (length t₀) depth kind 0 0 here next)
    only = element-only _ _ _ _ _ _ _ some (only-left i.going r.only)

  elements-same : length t ≡ length t₀
  elements-same = sofar-length i.going.sofar (omega (arith, i.n_le, r.ready.fits))

pub gather_elements-loop-done-init : goal.gather_elements-loop-done-init
gather_elements-loop-done-init t c =
    let r = c.requires.ready in
    record { left = c.args.count; left_is = omega arith; acc = none; going = gathering-start _ _ _ _ _ _ refl; on = omega arith; at_le = r.at_le; n_le = r.n_le }

pub gather_elements-returns-then-doc-here : goal.gather_elements-returns-then-doc-here
gather_elements-returns-then-doc-here t c =
    let i = c.loop-done.invariant in
    let more : c.loop-done.done < c.args.count = omega arith in
    let refused = at-end _ c.args.doc.now _ _ _ _ _ _ _ (c.requires.kind_some (omega (arith, more))) c.if-doc-here.true (only i c.requires more) in
    gathering-none i.going c.args.doc.now _ _ c.args.at _ _
    (elements-no _ _ _ _ _ _ _ (some i c.requires more) refused) (element-none _ _ _ _ _ _ _ _ (some i c.requires more) refused c.if-doc-here.true) i.n_le (omega arith)

pub gather_elements-gather_tag_body-requires : goal.gather_elements-gather_tag_body-requires
gather_elements-gather_tag_body-requires t c =
    let i = c.loop-done.invariant in
    let p = c.requires in
    let more : c.loop-done.done < c.args.count = omega arith in (
      omega arith,
      payload-asked _ _ _ _ _ _ _ _ _ _ _ _ _ (elements-same i p) p.ready.doc_le i.at_le i.n_le (omega (arith, p.ready.above_le, i.going.sofar.n_is))
          p.kind_le (omega arith) (omega arith) (omega (arith, p.deep)) (only i p more) (omega (arith, p.lines_fit, ap length i.going.listed)),
    )

pub gather_elements-with_open-requires : goal.gather_elements-with_open-requires
gather_elements-with_open-requires t c =
    let i = c.loop-done.invariant in
    omega (arith, done-small i.going _ i.n_le, room-le (length c.args.table.now))

pub gather_elements-returns-in-Cut : goal.gather_elements-returns-in-Cut
gather_elements-returns-in-Cut t c =
    let i = c.loop-done.invariant in
    let p = c.requires in
    let more : c.loop-done.done < c.args.count = omega arith in
    let g = c.gather_tag_body in
    let q = piece_cut _ g.result c.args.doc.now _ _ _ _ _ _ _ _ _ _ _ _ _ _ (elements-same i p) g.ensures _ _ c.in-Cut.is in
    gathering-open i.going c.args.doc.now _ _ c.args.at _
    (q.0.0, elements-no _ _ _ _ _ _ _ (some i p more) q.0.1) (element-begun _ _ _ _ _ _ _ _ (some i p more) q.0.1 c.if-doc-here.false) q.1
    (begun-width _ _ _ _ _ _ _ _ _) c.with_open.ensures (omega (arith, i.n_le, p.ready.fits))

pub gather_elements-loop-done-preserved : goal.gather_elements-loop-done-preserved
gather_elements-loop-done-preserved t c =
    let i = c.loop-done.invariant in
    let p = c.requires in
    let more : c.loop-done.done < c.args.count = omega arith in
    let g = c.gather_tag_body in
    let q = piece-whole _ g.result c.args.doc.now _ _ _ _ _ _ _ _ _ _ _ _ _ _ (elements-same i p) g.ensures _ _ c.in-Whole.is in
    let x = q.0 in
    record {
      left = i.left - 1;
      left_is = omega (arith, i.left_is, some i p more);
      acc = _;
      going = gathering-next i.going x.x
          (elements-next _ _ _ _ _ _ _ (some i p more) x.is x.at_is x.n_is) (element-kept _ _ _ _ _ _ _ _ (some i p more) x.is x.at_is x.n_is)
          x.table q.1 x.n_is refl (omega (arith, i.n_le, p.ready.fits));
      on = omega (arith, i.on, x.on);
      at_le = x.at_le;
      n_le = x.n_le;
    }

pub gather_elements-returns : goal.gather_elements-returns
gather_elements-returns t c =
    let i = c.loop-done.invariant in
    gathering-end i.going c.args.doc.now _ (512 - c.args.depth) c.args.at c.args.most _ _ (elements-none _ _ _ _ _ _ _ (omega (arith, i.left_is)))
    (omega (arith, i.left_is)) i.on i.at_le i.n_le

-- ---- a compound's entries

module _ {form : Form} {doc t₀ ls₀ t ls : List ℕ} {at depth n most here next count : ℕ}
    (i : EntriesKept form doc at depth t₀ n ls₀ t ls here next count) (r : EntriesAsked form doc t₀ depth at n ls₀ most) where
  -- The entries left are read or refused with 1, so the bound on them is not reached.
  only-entries : OnlyCut (entries_of form doc (read_in form doc (length t₀) depth) i.fuel i.acc here next)
  only-entries = only-left i.going r.only

  fuelled : 0 < i.fuel
  fuelled = entries-some _ _ _ _ _ _ _ only-entries

  entries-same : length t ≡ length t₀
  entries-same = sofar-length i.going.sofar (omega (arith, i.n_le, r.ready.fits))

pub gather_compound-loop-entry-init : goal.gather_compound-loop-entry-init
gather_compound-loop-entry-init t c =
    let r = c.requires.ready in
    record { fuel = suc (length c.args.doc.now); acc = none; going = gathering-start _ _ _ _ _ _ refl; on = omega arith; at_le = r.at_le; n_le = r.n_le }

pub gather_compound-returns-in-Err : goal.gather_compound-returns-in-Err
gather_compound-returns-in-Err t c =
    let i = c.loop-entry.invariant in
    let f = fuelled i c.requires in
    let refused = sym c.in-Err.ensures in
    let cut = cut_of (entries-head-no _ _ _ _ _ _ _ f refused) (only-entries i c.requires) in
    gathering-none i.going c.args.doc.now _ _ c.args.at _ _ cut.1 (entry-none _ _ _ _ _ _ _ f refused) i.n_le (omega arith)

pub gather_compound-returns-in-Ok-None : goal.gather_compound-returns-in-Ok-None
gather_compound-returns-in-Ok-None t c =
    let i = c.loop-entry.invariant in
    let is = sym (rw c.in-Ok-None.field-0-is at c.in-Ok-None.ensures) in
    gathering-end i.going c.args.doc.now _ (512 - c.args.depth) c.args.at c.args.most _ _ (entries-end _ _ _ _ _ _ _ (fuelled i c.requires) is)
    refl (omega (arith, i.on)) (omega (arith, entry_in _ _ _ is)) i.n_le

-- the place behind the name is in the document, and so a word
pub gather_compound-overflow_add-payload : goal.gather_compound-overflow_add-payload
gather_compound-overflow_add-payload t c =
    let is = sym (rw c.in-Ok-Some.field-0-is at c.in-Ok-Some.ensures) in
    omega (arith, (entry-within _ _ _ is).1.to, c.requires.ready.doc_le)

pub gather_compound-gather_tag_body-requires : goal.gather_compound-gather_tag_body-requires
gather_compound-gather_tag_body-requires t c =
    let i = c.loop-entry.invariant in
    let p = c.requires in
    let is = sym (rw c.in-Ok-Some.field-0-is at c.in-Ok-Some.ensures) in
    let w = entry-within _ _ _ is in (
      omega arith,
      payload-asked _ _ _ _ _ _ _ _ _ _ _ _ _ (entries-same i p) p.ready.doc_le w.1.to i.n_le (omega (arith, p.ready.above_le, i.going.sofar.n_is))
          w.0 (omega (arith, w, p.ready)) (omega (arith, w, p.ready)) (omega (arith, p.deep))
          (entry-only _ _ _ _ _ _ _ is (only-entries i p)).1 (omega (arith, p.lines_fit, ap length i.going.listed)),
    )

pub gather_compound-with_open-requires : goal.gather_compound-with_open-requires
gather_compound-with_open-requires t c =
    let i = c.loop-entry.invariant in
    omega (arith, done-small i.going _ i.n_le, room-le (length c.args.table.now))

pub gather_compound-returns-in-Cut : goal.gather_compound-returns-in-Cut
gather_compound-returns-in-Cut t c =
    let i = c.loop-entry.invariant in
    let p = c.requires in
    let g = c.gather_tag_body in
    let is = sym (rw c.in-Ok-Some.field-0-is at c.in-Ok-Some.ensures) in
    let new = (entry-only _ _ _ _ _ _ _ is (only-entries i p)).0 in
    let q = piece_cut _ g.result c.args.doc.now _ _ _ _ _ _ _ _ _ _ _ _ _ _ (entries-same i p) g.ensures _ _ c.in-Cut.is in
    gathering-open i.going c.args.doc.now _ _ c.args.at _
    (q.0.0, entries-no _ _ _ _ _ _ _ (fuelled i p) is new q.0.1) (entry-begun _ _ _ _ _ _ is _ (fuelled i p) q.0.1) q.1
    (begun-width _ _ _ _ _ _ _ _ _) c.with_open.ensures (omega (arith, i.n_le, p.ready.fits))

pub gather_compound-overflow_add-count : goal.gather_compound-overflow_add-count
gather_compound-overflow_add-count t c =
    let i = c.loop-entry.invariant in
    omega (arith, done-small i.going _ i.n_le, room-le (length c.args.table.now))

pub gather_compound-loop-entry-smaller : goal.gather_compound-loop-entry-smaller
gather_compound-loop-entry-smaller t c =
    let i = c.loop-entry.invariant in
    let g = c.gather_tag_body in
    let is = sym (rw c.in-Ok-Some.field-0-is at c.in-Ok-Some.ensures) in
    let q = piece-whole _ g.result c.args.doc.now _ _ _ _ _ _ _ _ _ _ _ _ _ _ (entries-same i c.requires) g.ensures _ _ c.in-Whole.is in
    omega (arith, i.at_le, (entry-within _ _ _ is).1, q.0.on, q.0.at_le)

pub gather_compound-loop-entry-preserved : goal.gather_compound-loop-entry-preserved
gather_compound-loop-entry-preserved t c =
    let i = c.loop-entry.invariant in
    let p = c.requires in
    let g = c.gather_tag_body in
    let is = sym (rw c.in-Ok-Some.field-0-is at c.in-Ok-Some.ensures) in
    let new = (entry-only _ _ _ _ _ _ _ is (only-entries i p)).0 in
    let q = piece-whole _ g.result c.args.doc.now _ _ _ _ _ _ _ _ _ _ _ _ _ _ (entries-same i p) g.ensures _ _ c.in-Whole.is in
    let x = q.0 in
    record {
      fuel = i.fuel - 1;
      acc = _;
      going = gathering-next i.going x.x
          (entries_next _ _ _ _ _ _ _ (fuelled i p) is new x.is x.at_is x.n_is) (entry_kept _ _ _ _ _ _ is _ (fuelled i p) x.is x.at_is x.n_is)
          x.table q.1 x.n_is refl (omega (arith, i.n_le, p.ready.fits));
      on = omega (arith, i.on, (entry-within _ _ _ is).1, x.on);
      at_le = x.at_le;
      n_le = x.n_le;
    }
