-- The theorems on the conversion, as specs/Conversion.antt states them.
-- Assumes nothing.
use Prim.Native.Nat.{ℕ, ◌+◌, ◌≤◌, ◌<◌}
use mathlib.Core.Bool.{false}
use mathlib.Core.Logic.{◌⊎◌, inl, inr}
use mathlib.Core.List.{List, [], append-nil}
use mathlib.Core.Path.{◌≡◌, refl, sym, ap, subst, ◌∙◌}
use native.Mathlib.Omega.{arith}
use lib.Dec.{eqb}
use lib.ListN.{length, length-append}
use Rattle.form.specs.Form.{Way, stays, back}
use Rattle.form.specs.Answer.{Out, got, no, ◌>>◌, long_string, output_full, depth_limit, record_limit}
use Rattle.form.specs.Tree.{Document, LawfulBy, LawfulIn, entries_count}
use Rattle.form.specs.Layout.{layout_in}
use Rattle.form.specs.Turned.{chars_in, recoded, Carried, turned, meant}
use Rattle.form.specs.Table.{Forest, none, node, size, value_of}
use Rattle.form.specs.Tables.{IsTable, Within}
use Rattle.form.specs.Writing.{judged, written}
use Rattle.form.proofs.Answer.{got-no}
use Rattle.form.proofs.Answers.{of-got, of-no}
use Rattle.form.proofs.Picks.{lt-or}
use Rattle.form.proofs.Table.{size-one}
use Rattle.form.proofs.Tables.{fair-inner}
use Rattle.form.proofs.Turned.{recoded-good, recoded-chars, recoded-back, recoded-one, map-entries-id}
use Rattle.demands.specs.Reading.{Bytes, Complete}
use Rattle.demands.specs.Writing.{table_value}
use Rattle.demands.specs.Conversion.{IsConverted, IsReadThere, IsConverts, IsThereAndBack}
use Rattle.demands.proofs.Mapped.{lawful-map, document-then, map-entries-count}
use Rattle.demands.proofs.Judged.{counted, root-lawful, root-long}
use Rattle.demands.proofs.Carried.{carried_source, carried-stays, layout_stays, carried-written, carried-full, written-carried, Was}
use Rattle.demands.proofs.Tabled.{root_is}
use Rattle.demands.proofs.Reading.{canonical, complete}
use Rattle.demands.proofs.Writing.{table-few}

-- ---- on trees

module _ (way : Way) (d : Document) (c : LawfulBy (Carried way) d) where
  -- A string that was carried can be carried back.
  carried_on : (s : List ℕ) → Carried way s → Carried (back way) (recoded way s)
  carried_on s t = ((recoded-good way s t.0.0, t.1), omega (arith, ap length (recoded-back way s t.0.0), t.0.1))

  -- So can the document.
  pub turned-carried : LawfulBy (Carried (back way)) (turned way d)
  turned-carried = lawful-map (Carried way) (Carried (back way)) (recoded way) carried_on (λ s t p q. recoded-one way s t p.0.0 q.0.0) d c

  -- It keeps the rules there.
  pub turned-lawful : LawfulIn way.to (turned way d)
  turned-lawful = carried_source (back way) (turned way d) turned-carried

  -- It has the value that it had.
  pub turned-meant : meant way.to (turned way d) ≡ meant way.from d
  turned-meant = document-then (Carried way) (chars_in way.to.strings) (recoded way) (chars_in way.from.strings) (λ s t. recoded-chars way s t.0.0) d c

  -- And it comes back.
  pub turned-back : turned (back way) (turned way d) ≡ d
  turned-back =
      document-then (Carried way) (recoded (back way)) (recoded way) (λ s. s) (λ s t. recoded-back way s t.0.0) d c
      ∙ (λ i. record { name = d.name; root = map-entries-id d.root i })

-- ---- what is written

module _ (way : Way) (doc w : List ℕ) (bytes : Bytes doc) (s : Within (length doc) w) (t : IsTable (length doc) w) (room : ℕ) where
  -- The document that the table stands for.
  abbrev d : Document
  d = table_value way.from doc w t

  -- What an accepted write of it says.
  pub was : (bs : List ℕ) → written way doc t.head t.inner room ≡ got bs → Was way doc t.head t.inner t.compound t.fair room bs
  was bs e =
      let few : size (node t.head t.inner none) ≤ record_limit = omega (arith, table-few doc w s t, size-one t.head t.inner) in
      written-carried way doc t.head t.inner t.compound t.fair bytes s.bytes few room bs e

-- What is written is the layout there, of the same value.
pub converted : (way : Way) → IsConverted way
converted way doc w bytes s t room bs e =
    let x = was way doc w bytes s t room bs e in
    let d = table_value way.from doc w t in
    record {
      laid = x.is;
      same = turned-meant way d x.carried;
      lawful = carried_source way d x.carried;
      lawful_there = turned-lawful way d x.carried;
      fits = x.fits;
    }

-- It is read there as that document.
pub read-there : (way : Way) → IsReadThere way
read-there way doc w bytes s t room bs e rest small =
    let x = was way doc w bytes s t room bs e in
    let d = table_value way.from doc w t in
    let there = turned way d in
    let c = counted way doc (eqb t.head.kind 9) t.inner (fair-inner (length doc) false t.head t.inner none t.fair) in
    let few : 1 + entries_count there.root ≤ record_limit = omega (arith, table-few doc w s t, c.entries, map-entries-count (recoded way) d.root) in
    rw x.is (complete way.to there (layout_in way.to there) rest record_limit (canonical way.to there) (turned-lawful way d x.carried) few (rw x.is at small))

-- ---- which documents are

-- A document that keeps the rules of its form is refused with 12 alone, and where it is, some string can't be carried.
pub converts : (way : Way) → IsConverts way
unfolding written
converts way doc w bytes s t room lawful = record {
  long = (λ x c. refused x.0 c x.1, λ c. grown c (judged way doc depth_limit false 0 none 0 root) refl);
  fits = λ c l. carried-written way doc t.head t.inner t.compound t.fair c room l;
  full = λ c l. carried-full way doc t.head t.inner t.compound t.fair c room l;
}
  where
    d : Document
    d = table_value way.from doc w t

    root : Forest
    root = node t.head t.inner none

    -- One whose strings can be carried is not refused so.
    refused : (n : ℕ) → LawfulBy (Carried way) d → written way doc t.head t.inner room ≡ no long_string n → ⊥
    refused n c e = go (lt-or room (length (layout_in way.to (turned way d))))
      where
        go : (room < length (layout_in way.to (turned way d))) ⊎ (length (layout_in way.to (turned way d)) ≤ room) → ⊥
        go (inl l) =
            let z : output_full ≡ long_string = cc (carried-full way doc t.head t.inner t.compound t.fair c room l, e) in
            omega (arith, z)
        go (inr l) = got-no (sym (carried-written way doc t.head t.inner t.compound t.fair c room l) ∙ e)

    -- One with a string that can't be is.
    grown : (LawfulBy (Carried way) d → ⊥) → (o : Out (Unit {0})) → judged way doc depth_limit false 0 none 0 root ≡ o → (n : ℕ) × (written way doc t.head t.inner room ≡ no long_string n)
    grown c (got tt) e =
        let few : size root ≤ record_limit = omega (arith, table-few doc w s t, size-one t.head t.inner) in
        absurd (c (root-lawful way doc t.head t.inner t.compound t.fair bytes s.bytes few e))
    grown c (no m n) e =
        let number = of-no e (root-long way doc t.head t.inner t.compound t.fair (carried-stays way.from d lawful)) in
        (n, rw (e, number) refl)

-- ---- there and back

-- The table that reading what was written leaves is written back as the first table is.
pub there_and_back : (way : Way) → IsThereAndBack way
there_and_back way doc w bytes s t room bs e small =
    record { x = c.x; accepted = c.accepted; same = λ again. same again (lt-or again (length (layout_in way.from d))) }
  where
    d : Document
    d = table_value way.from doc w t

    x : Was way doc t.head t.inner t.compound t.fair room bs
    x = was way doc w bytes s t room bs e

    c : Complete way.to bs record_limit (turned way d) bs
    c = subst (λ l. Complete way.to l record_limit (turned way d) bs) (append-nil bs)
        (read-there way doc w bytes s t room bs e [] (omega (arith, length-append {A = ℕ} bs [], small)))

    -- What is written back is the layout of the first document.
    returns : layout_in way.from (turned (back way) (value_of way.to bs c.x.head c.x.inner)) ≡ layout_in way.from d
    returns = ap (λ y. layout_in way.from (turned (back way) y)) c.tree ∙ ap (layout_in way.from) (turned-back way d x.carried)

    carried : LawfulBy (Carried (back way)) (value_of way.to bs c.x.head c.x.inner)
    carried = subst (LawfulBy (Carried (back way))) (sym c.tree) (turned-carried way d x.carried)

    own : LawfulBy (Carried (stays way.from)) d
    own = carried-stays way.from d (carried_source way d x.carried)

    same : (again : ℕ) → (again < length (layout_in way.from d)) ⊎ (length (layout_in way.from d) ≤ again)
        → written (back way) bs c.x.head c.x.inner again ≡ written (stays way.from) doc t.head t.inner again
    same again (inl l) =
        let f = of-got c.accepted (root_is way.to bs record_limit) in
        carried-full (back way) bs c.x.head c.x.inner f.compound f.fair carried again (omega (arith, ap length returns, l))
        ∙ sym (carried-full (stays way.from) doc t.head t.inner t.compound t.fair own again (omega (arith, ap length (layout_stays way.from d), l)))
    same again (inr l) =
        let f = of-got c.accepted (root_is way.to bs record_limit) in
        let kept = layout_stays way.from d in
        carried-written (back way) bs c.x.head c.x.inner f.compound f.fair carried again (omega (arith, ap length returns, l))
        ∙ ap got (returns ∙ sym kept)
        ∙ sym (carried-written (stays way.from) doc t.head t.inner t.compound t.fair own again (omega (arith, ap length kept, l)))
