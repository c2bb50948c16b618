-- Each way through the code is a law of the definition, and the table holds what was read.
-- Assumes nothing.
use Rattle.std.proofs.Common.{true, ℕ, suc, ◌+◌, ◌*◌, ◌-◌, ◌≤◌, ◌<◌, List, length, take, ◌≡◌, refl, sym, ap, ◌∙◌, arith}
use Rattle.std.proofs.lemmas.Result.{err_from_is_err_and}
use Rattle.form.specs.Form.{Form}
use Rattle.form.specs.Table.{none, holds}
use Rattle.form.proofs.Fields.{list-head-within, entry-within, entry_in}
use Rattle.form.proofs.Payloads.{payload-full, payload-leaf, payload-no, payload-got, payload-name, inside-deep, inside-list, inside-compound, compound-no, compound-got, list-head-no, list-no, list-got}
use Rattle.form.proofs.Runs.{sofar-start, sofar-no, sofar-end, sofar-next, elements-none, elements-no, elements-next}
use Rattle.form.proofs.Table.{width-le-size}
use Rattle.nbt_siblings.specs.Holding.{Holds}
use Rattle.nbt_siblings.proofs.Holding.{among-is}
use Rattle.nbt_siblings.proofs.Kept.{wrote_kept, kept_from, kept-wrote, kept_less, payload-free}
use Rattle.nbt_siblings.proofs.Forests.{family-of, once-of}
use Rattle.nbt_reader.specs.Steps.{Ready, Known, Kept}
use Rattle.nbt_reader.proofs.Deferred.{going_start, going_next, deferred-head-no, deferred-end, deferred-no, deferred-next, entry-start}
use Rattle.nbt_reader.proofs.Steps.{holds-below, holds_not, holds-between, held-table, settled-went, entry-settled-went, finished-went}
use Rattle.nbt_reader.proofs.bodies.+read_compound_read_container_read_elements_read_larger_body_read_list_read_tag_body.Invariants.{EntriesRead}
use Rattle.nbt_reader.proofs.bodies.+read_compound_read_container_read_elements_read_larger_body_read_list_read_tag_body.Goals as goal
use Rattle.nbt_reader.proofs.bodies.+read_compound_read_container_read_elements_read_larger_body_read_list_read_tag_body.Goals.{read_larger_body-else-kind-ne-LIST-via-then-kind-ne-LIST+else-kind-ne-COMPOUND, read_larger_body-else-kind-ne-LIST-via-else-kind-ne-LIST}

-- ---- a payload

pub read_tag_body-returns-then-cap-ix : goal.read_tag_body-returns-then-cap-ix
read_tag_body-returns-then-cap-ix t c = (payload-full _ _ _ _ _ _ _ _ _ c.if-cap-ix.true, refl)

pub read_tag_body-returns-then-kind-le-DOUBLE : goal.read_tag_body-returns-then-kind-le-DOUBLE
read_tag_body-returns-then-kind-le-DOUBLE t c =
    rw (payload-leaf _ _ _ _ _ _ _ _ _ c.if-cap-ix.false (holds-below c.args.kind (omega (arith, c.if-kind-le-DOUBLE.true)))) (c.read_fixed.ensures _)

pub read_larger_body-returns-then-kind-ne-COMPOUND : goal.read_larger_body-returns-then-kind-ne-COMPOUND
read_larger_body-returns-then-kind-ne-COMPOUND t c =
    rw (payload-leaf _ _ _ _ _ _ _ _ _ c.requires.1 (holds_not c.args.kind c.if-kind-ne-LIST.true c.if-kind-ne-COMPOUND.true)) c.read_leaf.ensures

pub read_larger_body-returns-in_err-kids : goal.read_larger_body-returns-in_err-kids
read_larger_body-returns-in_err-kids t c =
    let p = err_from_is_err_and c.from_residual.result c.from_residual.ensures.1 in
    let s = c.in_err-kids.ensures in
    let held : holds c.args.kind ≡ true = elim c.else-kind-ne-LIST.branch [
      | read_larger_body-else-kind-ne-LIST-via-then-kind-ne-LIST+else-kind-ne-COMPOUND w ↦ holds-between c.args.kind (omega arith) (omega arith)
      | read_larger_body-else-kind-ne-LIST-via-else-kind-ne-LIST w ↦ holds-between c.args.kind (omega arith) (omega arith)
    ] in
    rw (p.1, p.2) (payload-no _ _ _ _ _ _ _ _ _ c.requires.1 held s.0, kept_less _ _ c.args.ix (c.args.ix + 1) (omega arith) s.1)

pub read_larger_body-returns : goal.read_larger_body-returns
read_larger_body-returns t c =
    let s = c.in_ok-kids.ensures in
    let held : holds c.args.kind ≡ true = elim c.else-kind-ne-LIST.branch [
      | read_larger_body-else-kind-ne-LIST-via-then-kind-ne-LIST+else-kind-ne-COMPOUND w ↦ holds-between c.args.kind (omega arith) (omega arith)
      | read_larger_body-else-kind-ne-LIST-via-else-kind-ne-LIST w ↦ holds-between c.args.kind (omega arith) (omega arith)
    ] in
    let asked = c.requires in
    record {
      x = _;
      is = payload-got _ _ _ _ _ _ _ _ _ asked.1 held s.is;
      at_is = s.at_is;
      n_is = s.n_is;
      table = held-table _ _ s (rw (c.from.ensures, c.from-2.ensures) at c.container.ensures) c.put.ensures (omega (arith, asked.0.ready, asked.1));
      on = s.on;
      at_le = s.at_le;
      n_le = s.n_le;
    }

-- ---- what is in a container

pub read_container-returns-then-depth-eq0 : goal.read_container-returns-then-depth-eq0
read_container-returns-then-depth-eq0 t c = (inside-deep _ _ _ _ _ _ _ c.if-depth-eq0.true, refl)

pub read_container-returns-then-kind-eq-LIST : goal.read_container-returns-then-kind-eq-LIST
read_container-returns-then-kind-eq-LIST t c = rw (inside-list _ _ _ _ _ _ _ c.if-depth-eq0.false c.if-kind-eq-LIST.true) c.read_list.ensures

pub read_container-returns-in_err-ran : goal.read_container-returns-in_err-ran
read_container-returns-in_err-ran t c =
    let p = err_from_is_err_and c.from_residual.result c.from_residual.ensures.1 in
    let s = c.in_err-ran.ensures in
    rw (p.1, p.2) (inside-compound _ _ _ _ _ _ _ c.if-depth-eq0.false c.if-kind-eq-LIST.false ∙ compound-no _ _ _ _ _ s.0, s.1)

pub read_container-returns : goal.read_container-returns
read_container-returns t c =
    let s = c.in_ok-ran.ensures in
    record {
      x = _;
      is = inside-compound _ _ _ _ _ _ _ c.if-depth-eq0.false c.if-kind-eq-LIST.false ∙ compound-got _ _ _ _ _ s.is;
      at_is = s.at_is;
      n_is = s.n_is;
      count_is = s.count_is;
      kind_is = refl;
      table = s.table;
      on = s.on;
      at_le = s.at_le;
      n_le = s.n_le;
      count_lt = omega (arith, s.count_is, s.n_is, s.n_le, c.requires.cap_le, width-le-size s.x.forest);
    }

-- ---- a list

pub read_list-returns-in_err-head : goal.read_list-returns-in_err-head
read_list-returns-in_err-head t c =
    let p = err_from_is_err_and c.from_residual.result c.from_residual.ensures.1 in
    rw (p.1, p.2) (list-head-no _ _ _ _ _ (sym c.in_err-head.ensures), refl)

pub read_list-read_elements-requires : goal.read_list-read_elements-requires
read_list-read_elements-requires t c =
    let r = c.requires in
    let w = list-head-within _ _ _ (sym c.in_ok-head.ensures) in
    (omega arith, (record { doc_le = r.doc_le; at_le = w.0; cap_le = r.cap_le; fits = r.fits; n_le = r.n_le; above_le = r.above_le }, w.1))

pub read_list-returns-in_err-ran : goal.read_list-returns-in_err-ran
read_list-returns-in_err-ran t c =
    let r = c.from_residual-in_err-ran in
    let p = err_from_is_err_and r.result r.ensures.1 in
    let s = c.in_err-ran.ensures in
    rw (p.1, p.2) (list-no _ _ _ _ _ (sym c.in_ok-head.ensures) s.0, s.1)

pub read_list-returns : goal.read_list-returns
read_list-returns t c =
    let s = c.in_ok-ran.ensures in
    let w = list-head-within _ _ _ (sym c.in_ok-head.ensures) in
    record {
      x = _;
      is = list-got _ _ _ _ _ (sym c.in_ok-head.ensures) s.is;
      at_is = s.at_is;
      n_is = s.n_is;
      count_is = refl;
      kind_is = refl;
      table = s.table;
      on = omega (arith, s.on);
      at_le = s.at_le;
      n_le = s.n_le;
      count_lt = omega (arith, w.2);
    }

-- ---- its elements

pub read_elements-loop-init : goal.read_elements-loop-init
read_elements-loop-init t c =
    let r = c.requires.0 in
    record { left = c.args.count; left-is = omega arith; acc = none; sofar = sofar-start _ _ _ _ refl; on = omega arith; at_le = r.at_le; n_le = r.n_le }

pub read_elements-returns-in_err-step : goal.read_elements-returns-in_err-step
read_elements-returns-in_err-step t c =
    let p = err_from_is_err_and c.from_residual.result c.from_residual.ensures.1 in
    let i = c.loop.invariant in
    let s = c.in_err-step.ensures in
    rw (p.1, p.2) (
      sofar-no i.sofar (elements-no _ _ _ _ _ _ _ (omega arith) s.0),
      kept_from _ _ _ _ _ _ i.acc i.sofar.table i.sofar.n_is (omega (arith, i.n_le, c.requires.0.fits)) s.1,
    )

pub read_elements-loop-preserved : goal.read_elements-loop-preserved
read_elements-loop-preserved t c =
    let i = c.loop.invariant in
    let s = c.in_ok-step.ensures in
    record {
      left = i.left - 1;
      left-is = omega (arith, i.left-is);
      acc = _;
      sofar = sofar-next i.sofar s.x (elements-next _ _ _ _ _ _ _ (omega (arith, i.left-is)) s.is s.at_is s.n_is) s.table s.n_is refl (omega (arith, i.n_le));
      on = omega (arith, i.on, s.on);
      at_le = s.at_le;
      n_le = s.n_le;
    }

pub read_elements-returns : goal.read_elements-returns
read_elements-returns t c =
    let i = c.loop.invariant in
    record {
      x = _;
      is = sofar-end i.sofar (elements-none _ _ _ _ _ _ _ (omega arith));
      at_is = refl;
      n_is = i.sofar.n_is;
      count_is = omega (arith, i.sofar.done-is);
      table = i.sofar.table;
      on = i.on;
      at_le = i.at_le;
      n_le = i.n_le;
    }

-- ---- a compound's entries

module _ {form : Form} {doc t₀ t : List ℕ} {at depth cap above ix here next count : ℕ} (i : EntriesRead form doc at depth t₀ cap above ix t here next count) (r : Ready doc t₀ cap at above ix) where
  fuelled : 0 < i.fuel
  fuelled = omega (arith, i.enough, i.at_le)

  roomy : 9 * next ≤ length t₀
  roomy = omega (arith, i.n_le, r.fits)

  -- the records so far, as the table holds them
  abbrev held : Holds (length doc) t ix next
  held = record { acc = i.acc; base = t₀; parent = above; is = i.going.table; to = i.going.n_is; fits = roomy; names = i.going.names }

  known : length t ≡ length t₀ → Known doc t ix next
  known e =
      let f : 9 * next ≤ length t = omega (arith, e, roomy) in
      record { family = family-of _ _ _ _ held i.going.free (omega (arith, i.n_le, r.cap_le)) f; holds = held; fits = f }

  kept : Kept ix t₀ t
  kept = ap (take (9 * ix)) i.going.table ∙ wrote_kept t₀ above ix i.acc (omega (arith, r.n_le, r.fits))

  -- and where the words before the next record are kept
  module _ (t' : List ℕ) (k : Kept next t t') (e : length t' ≡ length t₀) where
    abbrev left : Holds (length doc) t' ix next
    left = record {
      acc = i.acc;
      base = t';
      parent = above;
      is = kept-wrote _ _ _ _ _ _ i.acc i.going.table i.going.n_is roomy k;
      to = i.going.n_is;
      fits = omega (arith, e, roomy);
      names = i.going.names;
    }

    left-known : Known doc t' ix next
    left-known =
        let f : 9 * next ≤ length t' = omega (arith, e, roomy) in
        record { family = family-of _ _ _ _ left i.going.free (omega (arith, i.n_le, r.cap_le)) f; holds = left; fits = f }

    left_kept : Kept ix t₀ t'
    left_kept = kept_from _ _ _ _ _ _ i.acc i.going.table i.going.n_is (omega (arith, r.n_le, r.fits)) k

pub read_compound-loop-e-init : goal.read_compound-loop-e-init
read_compound-loop-e-init t c =
    let r = c.requires in
    record {
      fuel = suc (length c.args.doc.now);
      enough = omega arith;
      acc = none;
      going = going_start _ _ _ _ _;
      on = omega arith;
      at_le = r.at_le;
      n_le = r.n_le;
      count-le = omega arith;
    }

pub read_compound-settle-requires : goal.read_compound-settle-requires
read_compound-settle-requires t c = known c.loop-e.invariant c.requires c.loop-e.auto.table

pub read_compound-returns-in-Err : goal.read_compound-returns-in-Err
read_compound-returns-in-Err t c =
    let a = c.args in
    let i = c.loop-e.invariant in
    let e = c.settle in
    settled-went e.result a.doc.now a.cap _ a.at a.above a.ix a.table.now e.new.table _ _ _ _ e.ensures.0
    (deferred-head-no _ _ _ _ _ _ _ _ i.going.deferred (fuelled i c.requires) _ _ (sym c.in-Err.ensures))
    (once-of _ _ _ _ (held i c.requires)) (ap (take (9 * a.ix)) e.ensures.1 ∙ kept i c.requires)

pub read_compound-finish-requires : goal.read_compound-finish-requires
read_compound-finish-requires t c = known c.loop-e.invariant c.requires c.loop-e.auto.table

pub read_compound-returns-in-Ok-None : goal.read_compound-returns-in-Ok-None
read_compound-returns-in-Ok-None t c =
    let a = c.args in
    let i = c.loop-e.invariant in
    let e = c.finish in
    let is = sym (rw c.in-Ok-None.field-0-is at c.in-Ok-None.ensures) in
    finished-went e.result a.doc.now a.cap _ a.at a.above a.ix a.table.now e.new.table _ _ _ _ _ i.acc e.ensures.0
    (deferred-end _ _ _ _ _ _ _ _ i.going.deferred (fuelled i c.requires) is)
    (once-of _ _ _ _ (held i c.requires)) (ap (take (9 * a.ix)) e.ensures.1 ∙ kept i c.requires)
    i.going.n_is i.going.done-is (e.ensures.1 ∙ i.going.table) (omega (arith, i.on)) (omega (arith, entry_in _ _ _ is)) i.n_le

-- the place behind the name is in the document, and so a word
pub read_compound-overflow_add-payload : goal.read_compound-overflow_add-payload
read_compound-overflow_add-payload t c =
    let is = sym (rw c.in-Ok-Some.field-0-is at c.in-Ok-Some.ensures) in
    omega (arith, (entry-within _ _ _ is).1.to, c.requires.doc_le)

pub read_compound-read_tag_body-requires : goal.read_compound-read_tag_body-requires
read_compound-read_tag_body-requires t c =
    let is = sym (rw c.in-Ok-Some.field-0-is at c.in-Ok-Some.ensures) in
    let w = entry-within _ _ _ is in
    let p = c.requires in
    let i = c.loop-e.invariant in (
      omega arith,
      record {
        ready = record {
          doc_le = p.doc_le;
          at_le = w.1.to;
          cap_le = p.cap_le;
          fits = omega (arith, c.loop-e.auto.table, p.fits);
          n_le = i.n_le;
          above_le = omega (arith, p.above_le, i.going.n_is);
        };
        kind_le = w.0;
        name_lt = omega (arith, w, p);
        len_lt = omega (arith, w, p);
      },
    )

pub read_compound-settle_entry-requires : goal.read_compound-settle_entry-requires
read_compound-settle_entry-requires t c =
    let is = sym (rw c.in-Ok-Some.field-0-is at c.in-Ok-Some.ensures) in (
      left-known c.loop-e.invariant c.requires c.read_tag_body.new.table c.in-Err-read_tag_body.ensures.1 (c.read_tag_body.auto.table ∙ c.loop-e.auto.table),
      omega (arith, (entry-within _ _ _ is).1),
    )

pub read_compound-returns-in-Err-read_tag_body : goal.read_compound-returns-in-Err-read_tag_body
read_compound-returns-in-Err-read_tag_body t c =
    let a = c.args in
    let i = c.loop-e.invariant in
    let e = c.settle_entry in
    let is = sym (rw c.in-Ok-Some.field-0-is at c.in-Ok-Some.ensures) in
    let told = c.in-Err-read_tag_body.ensures in
    let same = c.read_tag_body.auto.table ∙ c.loop-e.auto.table in
    let l = left i c.requires c.read_tag_body.new.table told.1 same in
    entry-settled-went e.result a.doc.now a.cap _ a.at a.above a.ix a.table.now e.new.table _ _ _ _ _ _ _ e.ensures.0
    (deferred-no _ _ _ _ _ _ _ _ i.going.deferred (fuelled i c.requires) _ _ is _ _ told.0)
    (once-of _ _ _ _ l) (sym (among-is _ _ _ _ l _ _ (omega arith)))
    (ap (take (9 * a.ix)) e.ensures.1 ∙ left_kept i c.requires c.read_tag_body.new.table told.1 same)

pub read_compound-loop-e-smaller : goal.read_compound-loop-e-smaller
read_compound-loop-e-smaller t c =
    let is = sym (rw c.in-Ok-Some.field-0-is at c.in-Ok-Some.ensures) in
    let s = c.in-Ok.ensures in
    omega (arith, c.loop-e.invariant.at_le, (entry-within _ _ _ is).1, s.on, s.at_le)

pub read_compound-loop-e-preserved : goal.read_compound-loop-e-preserved
read_compound-loop-e-preserved t c =
    let is = sym (rw c.in-Ok-Some.field-0-is at c.in-Ok-Some.ensures) in
    let i = c.loop-e.invariant in
    let w = (entry-within _ _ _ is).1 in
    let s = c.in-Ok.ensures in
    let m = payload-name _ _ _ _ _ _ _ _ _ s.is in
    record {
      fuel = i.fuel - 1;
      enough = omega (arith, i.enough, w, s.on);
      acc = _;
      going = going_next i.going s.x _ _ _ _
          (deferred-next _ _ _ _ _ _ _ _ i.going.deferred (fuelled i c.requires) _ _ is s.x s.is m.0 m.1 (entry-start _ _ _ is) _ _ s.at_is s.n_is)
          s.table s.n_is refl (omega (arith, i.n_le, c.requires)) (omega (arith, m, w)) (payload-free _ _ _ _ _ _ _ _ _ s.is);
      on = omega (arith, i.on, w, s.on);
      at_le = s.at_le;
      n_le = s.n_le;
      count-le = omega (arith, i.count-le, w, s.on);
    }
