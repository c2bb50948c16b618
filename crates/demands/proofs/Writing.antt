-- The theorems on writing, as specs/Writing.antt states them.
-- Assumes nothing.
use Prim.Native.Nat.{ℕ, ◌+◌, ◌≤◌}
use mathlib.Core.Bool.{false}
use mathlib.Core.List.{List, [], append-nil}
use mathlib.Core.Path.{◌≡◌, refl, sym, ap, subst, ◌∙◌}
use native.Mathlib.Omega.{arith}
use lib.Dec.{eqb}
use lib.ListN.{length, take, length-append}
use lib.Seq.{length-take-le}
use Rattle.form.specs.Form.{Form, stays}
use Rattle.form.specs.Answer.{got, record_limit}
use Rattle.form.specs.Tree.{LawfulIn}
use Rattle.form.specs.Layout.{layout_in}
use Rattle.form.specs.Table.{none, node, size, value_of}
use Rattle.form.specs.Tables.{IsTable, Within}
use Rattle.form.specs.Reading.{One, document_at}
use Rattle.form.specs.Writing.{written}
use Rattle.form.proofs.Table.{size-one, flat-length}
use Rattle.form.proofs.Tables.{table-length, fair-inner}
use Rattle.demands.specs.Reading.{Complete}
use Rattle.demands.specs.Writing.{table_value, IsWrittenLawful, IsLawfulWritten, IsLawfulFull, IsReadBack, IsRewritten, IsDomain}
use Rattle.demands.proofs.Judged.{counted}
use Rattle.demands.proofs.Carried.{carried_source, carried-stays, layout_stays, carried-written, carried-full, written-carried}
use Rattle.form.proofs.Answers.{of-got}
use Rattle.demands.proofs.Tabled.{root_is}
use Rattle.demands.proofs.Near.{near}
use Rattle.demands.proofs.Reading.{canonical, sound, complete}

-- A table has no more records than the limit allows.
pub table-few : (doc w : List ℕ) → Within (length doc) w → (t : IsTable (length doc) w) → 1 + size t.inner ≤ record_limit
table-few doc w s t = omega (arith, s.words, table-length (length doc) w t)

-- What is written is the layout of the table's document, which keeps the rules.
pub written-lawful : (form : Form) → IsWrittenLawful form
written-lawful form doc w bytes s t room bs e =
    let few : size (node t.head t.inner none) ≤ record_limit = omega (arith, table-few doc w s t, size-one t.head t.inner) in
    let x = written-carried (stays form) doc t.head t.inner t.compound t.fair bytes s.bytes few room bs e in
    record { laid = x.is ∙ layout_stays form (table_value form doc w t); lawful = carried_source (stays form) (table_value form doc w t) x.carried; fits = x.fits }

-- Every table whose document keeps the rules is written, where there is room.
pub lawful-written : (form : Form) → IsLawfulWritten form
lawful-written form doc w bytes s t room lawful fits =
    let d = table_value form doc w t in
    let e = layout_stays form d in
    carried-written (stays form) doc t.head t.inner t.compound t.fair (carried-stays form d lawful) room (omega (arith, ap length e, fits)) ∙ ap got e

-- It is refused with 13 where there is none.
pub lawful-full : (form : Form) → IsLawfulFull form
lawful-full form doc w bytes s t room lawful short =
    let d = table_value form doc w t in
    carried-full (stays form) doc t.head t.inner t.compound t.fair (carried-stays form d lawful) room (omega (arith, ap length (layout_stays form d), short))

-- What is written is read back.
pub read_back : (form : Form) → IsReadBack form
read_back form doc w bytes s t room bs e rest small =
    let x = written-lawful form doc w bytes s t room bs e in
    let d = table_value form doc w t in
    let c = counted (stays form) doc (eqb t.head.kind 9) t.inner (fair-inner (length doc) false t.head t.inner none t.fair) in
    rw x.laid (complete form d (layout_in form d) rest record_limit (canonical form d) x.lawful (omega (arith, table-few doc w s t, c.entries)) (rw x.laid at small))

-- ---- write after read

-- What was read is written again, with room for it.
again : (form : Form) (doc : List ℕ) (room : ℕ) (x : One) → document_at form doc room ≡ got x → LawfulIn form (value_of form doc x.head x.inner)
    → (to : ℕ) → length (layout_in form (value_of form doc x.head x.inner)) ≤ to
    → written (stays form) doc x.head x.inner to ≡ got (layout_in form (value_of form doc x.head x.inner))
again form doc room x e lawful to fits =
    let f = of-got e (root_is form doc room) in
    let d = value_of form doc x.head x.inner in
    let same = layout_stays form d in
    carried-written (stays form) doc x.head x.inner f.compound f.fair (carried-stays form d lawful) to (omega (arith, ap length same, fits)) ∙ ap got same

-- The table that reading leaves is written as the bytes consumed, but at the ids of empty lists.
pub rewritten : (form : Form) → IsRewritten form
rewritten form doc bytes room few x e =
    let s = sound form doc bytes room x e in
    let f = of-got e (root_is form doc room) in
    let d = value_of form doc x.head x.inner in
    let n = near form d (take x.next doc) s.laid in
    let long : length (layout_in form d) ≡ x.next = sym n.long ∙ length-take-le x.next doc s.within in
    record {
      table = record { head = x.head; inner = x.inner; compound = f.compound; fair = f.fair; these = refl };
      head_is = refl;
      inner_is = refl;
      small = record { bytes = s.small; words = omega (arith, flat-length 0 0 (node x.head x.inner none), size-one x.head x.inner, s.fits, s.records) };
      written_is = λ to l. again form doc room x e s.lawful to (omega (arith, long));
      near = n;
    }

-- ---- the domain of equality

-- Each document of the domain is read from its layout, and written as that layout again.
pub domain : (form : Form) → IsDomain form
domain form d i =
    let bs = layout_in form d in
    let c : Complete form bs record_limit d bs =
    subst (λ l. Complete form l record_limit d bs) (append-nil bs)
    (complete form d bs [] record_limit (canonical form d) i.lawful i.records (omega (arith, length-append {A = ℕ} bs [], i.bytes))) in
    let w = again form bs record_limit c.x c.accepted (subst (LawfulIn form) (sym c.tree) i.lawful) (length bs) (omega (arith, ap (λ e. length (layout_in form e)) c.tree)) in
    (c.x, c.accepted, c.tree, w ∙ ap (λ e. got (layout_in form e)) c.tree)
