-- Whole tables: the root's record is judged and written, and that is what rule 8 says of the table.
-- Assumes nothing.
use Prim.Native.Nat.{ℕ, ◌+◌, ◌≤◌, ◌<◌}
use mathlib.Core.Bool.{false}
use mathlib.Core.List.{List}
use mathlib.Core.Path.{◌≡◌, refl, sym, ap, subst, ◌∙◌}
use native.Mathlib.Omega.{arith}
use borrow.Author.Tests.{le-leb, lt-leb}
use lib.ListN.{length, get_or}
use Rattle.form.specs.Form.{Form, Way, stays}
use Rattle.form.specs.Answer.{Out, got, no, Count, counted, failed, output_full, depth_limit}
use Rattle.form.specs.Spans.{over}
use Rattle.form.specs.Table.{none, node, size, word, value_of}
use Rattle.form.specs.Tables.{IsTable, Within}
use Rattle.form.specs.Layout.{layout_in}
use Rattle.form.specs.Turned.{turned}
use Rattle.form.specs.Writing.{judged, written, answer_of, WriteGives}
use Rattle.form.proofs.Tables.{table-sits, table-under, table-length, sits-first, one-tree, record-at}
use Rattle.form.proofs.Answers.{of-no}
use Rattle.form.proofs.Turned.{turned-stays}
use Rattle.form.proofs.Writing.{judged-told}
use Rattle.std.specs.Prelude.{Result, Ok, Err}
use Rattle.form.specs.Refusals.{number_of}
use Rattle.form.specs.declared.refusals.Refused.{Refused}
use Rattle.recode.specs.Steps.{Puts}
use Rattle.nbt_judging.specs.Pieces.{laid}
use Rattle.nbt_judging.specs.Steps.{Placed, Rows, Some, Sized}
use Rattle.nbt_judging.proofs.Rows.{rows-placed}
use Rattle.nbt_writer.specs.Steps.{SomeRoom, Fits}
use Rattle.nbt_writer.proofs.Laid.{document-laid}

module _ (doc t : List ℕ) (small : Within (length doc) t) (i : IsTable (length doc) t) where
  -- The root ends where the table does.
  root-end : word t 0 7 ≡ 1 + size i.inner
  root-end = (sits-first t 0 i.head i.inner none (table-sits (length doc) t i)).end ∙ omega arith

  -- The root stands in the table, with the records in it.
  pub root-rows : {e : ℕ} → e ≡ word t 0 7 → Rows doc t false 0 e (node i.head i.inner none)
  unfolding size
  root-rows q = record {
    sits = table-sits (length doc) t i;
    parent = 0;
    under = table-under (length doc) t i;
    fair = i.fair;
    to = omega (arith, q, root-end);
    fits = omega (arith, q, root-end, table-length (length doc) t i);
  }

  -- There is a first record.
  pub root-room : 9 ≤ length t
  root-room = omega (arith, table-length (length doc) t i)

  -- The root's record and those in it, as records side by side: there is one. They stand in whatever is the same table.
  abbrev pub root : {t' : List ℕ} → t' ≡ t → {e : ℕ} → e ≡ word t 0 7 → Some doc t' false 0 e
  root same q = record { small = rw same small; forest = node i.head i.inner none; rows = rw same (root-rows q) }

  module _ (way : Way) (o : List ℕ) {e : ℕ} (q : e ≡ word t 0 7) (r : Result ℕ Refused)
      (told : (p : Some doc t false 0 e) → Sized (judged way doc depth_limit false 0 none 0 p.forest) (laid way doc false p.forest) r) where
    -- A record that is refused is one of the table's, so that the code may read its words and its spans.
    pub table-placed : {u : Refused} → r ≡ Err u → {t' : List ℕ} → t' ≡ t → Placed doc t' u.place
    unfolding size
    table-placed {u} g same =
        let p = u.place in
        let z : judged way doc depth_limit false 0 none 0 (node i.head i.inner none) ≡ no (number_of u.refusal) p = rw g at (told (root refl q)) in
        let b = of-no z (judged-told way doc t depth_limit false 0 none 0 (node i.head i.inner none) (table-sits (length doc) t i)) in
        let x = record-at (length doc) t i p (omega (arith, b.before)) in
        let rows : Rows doc t x.element p (p + 1 + size x.inner) (node x.head x.inner none) = record {
          sits = x.sits;
          parent = x.parent;
          under = x.under;
          fair = x.fair;
          to = omega arith;
          fits = omega (arith, x.within, table-length (length doc) t i);
        } in
        rw same (rows-placed doc t x.element p (p + 1 + size x.inner) x.head x.inner rows)

    -- A record is refused.
    pub table-no : {u : Refused} → r ≡ Err u
        → WriteGives way doc t (written way doc i.head i.inner (length o)) o (answer_of way doc t (no (number_of u.refusal) u.place)) o
    unfolding written
    table-no {u} g =
        let z : judged way doc depth_limit false 0 none 0 (node i.head i.inner none) ≡ no (number_of u.refusal) u.place = rw g at (told (root refl q)) in
        let w : written way doc i.head i.inner (length o) ≡ no (number_of u.refusal) u.place = rw z refl in
        rw w (record { answer_is = refl; output_is = refl })

    module _ {s : ℕ} (g : r ≡ Ok s) where
      -- What is known of a root that passes.
      passes : (judged way doc depth_limit false 0 none 0 (node i.head i.inner none) ≡ got tt) × (s ≡ length (laid way doc false (node i.head i.inner none)))
      passes = rw g at (told (root refl q))

      -- There is room for the root's bytes.
      pub table-room : {t' : List ℕ} → t' ≡ t → s ≤ length o → SomeRoom way doc t' false 0 e o 0
      table-room same l = record { some = root same q; room = omega (arith, passes.1, l) }

      -- The layout of its document, as it is written.
      abbrev layout : List ℕ
      layout = layout_in way.to (turned way (value_of way.from doc i.head i.inner))

      module _ (bytes : (k : ℕ) → get_or doc k 0 < 256) where
        -- Its bytes are the layout of its document.
        laid-is : laid way doc false (node i.head i.inner none) ≡ layout
        laid-is = document-laid way doc bytes i.head i.inner i.compound i.fair

        -- So the layout is as long as was counted.
        long : length layout ≡ s
        long = ap length (sym laid-is) ∙ sym passes.1

        -- There is no room (13).
        pub table-full : length o < s → WriteGives way doc t (written way doc i.head i.inner (length o)) o (failed output_full 0 0) o
        unfolding written
        table-full l =
            let w : written way doc i.head i.inner (length o) ≡ no output_full 0 =
            rw (passes.0, lt-leb (length layout) (length o) (omega (arith, long))) refl in
            rw w (record { answer_is = refl; output_is = refl })

        -- It is written.
        pub table_done : {t' : List ℕ} → t' ≡ t → s ≤ length o → {o' : List ℕ} {x : ℕ}
            → ((p : SomeRoom way doc t' false 0 e o 0) → Puts (laid way doc false p.some.forest) o 0 o' x)
            → WriteGives way doc t (written way doc i.head i.inner (length o)) o (counted s) o'
        unfolding written table-room
        table_done same l put =
            let w : written way doc i.head i.inner (length o) ≡ got layout =
            rw (passes.0, le-leb (length layout) (length o) (omega (arith, long))) refl in
            rw w (record { answer_is = ap counted (sym long); output_is = (put (table-room same l)).is ∙ ap (over o 0) laid-is })

-- The answer to a refusal is the one that is due, of the table as it comes back.
pub refused-gives : (way : Way) (doc t : List ℕ) (m p : ℕ) {w : Out (List ℕ)} {o : List ℕ} {a : Count} {t' : List ℕ} → WriteGives way doc t w o (answer_of way doc t (no m p)) o → t' ≡ t
    → a ≡ answer_of way doc t' (no m p) → WriteGives way doc t w o a o
refused-gives way doc t m p g same e = record { answer_is = e ∙ ap (λ x. answer_of way doc x (no m p)) same ∙ g.answer_is; output_is = g.output_is }

-- ---- where there is room for certain

-- Nothing is judged or counted first; the tree of the records is the one that the room is known for. The document stays in its form.
module _ (form : Form) (doc t o : List ℕ) (f : Fits form doc t o) (bytes : (k : ℕ) → get_or doc k 0 < 256)
    {way : Way} (own : way ≡ stays form) {e : ℕ} (q : e ≡ word t 0 7) (i : IsTable (length doc) t) where
  -- The bytes of the root are the layout of its document.
  root-laid : laid way doc false (node i.head i.inner none) ≡ layout_in form (value_of form doc i.head i.inner)
  root-laid =
      document-laid way doc bytes i.head i.inner i.compound i.fair
      ∙ ap (λ w. layout_in w.to (turned w (value_of w.from doc i.head i.inner))) own
      ∙ ap (layout_in form) (turned-stays form (value_of form doc i.head i.inner))

  -- It is the layout that there is room for.
  same_layout : layout_in form (value_of form doc i.head i.inner) ≡ layout_in form (value_of form doc f.formed.table.head f.formed.table.inner)
  same_layout =
      let same = one-tree (length doc) (length doc) t i f.formed.table in
      λ j. layout_in form (value_of form doc (same.0 j) (same.1 j))

  -- There is room for the root's bytes.
  pub put-room : SomeRoom way doc t false 0 e o 0
  put-room = record { some = root doc t f.formed.small i refl q; room = omega (arith, ap length (root-laid ∙ same_layout), f.room) }

  -- They are put, and are the layout of the document.
  pub put-done : {o' : List ℕ} {x : ℕ} → ((p : SomeRoom way doc t false 0 e o 0) → Puts (laid way doc false p.some.forest) o 0 o' x)
      → Puts (layout_in form (value_of form doc i.head i.inner)) o 0 o' x
  unfolding put-room
  put-done {o'} {x} put = subst (λ bs. Puts bs o 0 o' x) root-laid (put put-room)
