-- A table that is written, in the form of its document or another: accepted exactly where each string can be carried, as the layout of the
-- document in the form that is written. Writing.antt and Conversion.antt cite it.
-- Assumes nothing.
use Prim.Native.Nat.{ℕ, ◌≤◌, ◌<◌}
use mathlib.Core.Bool.{false}
use mathlib.Core.List.{List}
use mathlib.Core.Path.{◌≡◌, refl, sym, ap}
use native.Mathlib.Omega.{arith}
use borrow.Author.Tests.{leb-true, le-leb, lt-leb}
use lib.Dec.{leb}
use lib.ListN.{length}
use Rattle.form.specs.Form.{Form, Way, stays}
use Rattle.form.specs.Answer.{got, no, output_full, depth_limit, document_limit, record_limit}
use Rattle.form.specs.Tree.{Document, TextIn, LawfulBy, LawfulIn}
use Rattle.form.specs.Layout.{layout_in}
use Rattle.form.specs.Turned.{Carried, turned}
use Rattle.form.specs.Table.{Head, Forest, none, node, size, value_of}
use Rattle.form.specs.Tables.{Fair}
use Rattle.form.specs.Writing.{judged, written}
use Rattle.form.proofs.Answer.{guard-got}
use Rattle.form.proofs.Turned.{recoded-stays, turned-stays}
use Rattle.demands.specs.Reading.{Bytes}
use Rattle.demands.proofs.Mapped.{lawful-to}
use Rattle.demands.proofs.Judged.{then-got, root-lawful, lawful-root}

-- A document whose strings can be carried keeps the rules of its own form.
pub carried_source : (way : Way) (d : Document) → LawfulBy (Carried way) d → LawfulIn way.from d
carried_source way d = lawful-to (Carried way) (TextIn way.from) (λ s t. t.0) d

-- One that stays in its form needs no more.
pub carried-stays : (form : Form) (d : Document) → LawfulIn form d → LawfulBy (Carried (stays form)) d
carried-stays form d = lawful-to (TextIn form) (Carried (stays form)) (λ s t. (t, omega (arith, ap length (recoded-stays form s), t.1))) d

-- It is laid out as it is.
pub layout_stays : (form : Form) (d : Document) → layout_in form (turned (stays form) d) ≡ layout_in form d
layout_stays form d = ap (layout_in form) (turned-stays form d)

module _ (way : Way) (doc : List ℕ) (h : Head) (inner : Forest) (ten : h.kind ≡ 10) (fair : Fair (length doc) false (node h inner none)) where
  -- The document that the records stand for.
  abbrev pub value : Document
  value = value_of way.from doc h inner

  -- Its bytes in the form that is written.
  abbrev pub bytes-there : List ℕ
  bytes-there = layout_in way.to (turned way value)

  module _ (carried : LawfulBy (Carried way) value) (room : ℕ) where
    -- It is written where there is room.
    pub carried-written : length bytes-there ≤ room → written way doc h inner room ≡ got bytes-there
    unfolding written
    carried-written fits = rw (lawful-root way doc h inner ten fair carried, le-leb (length bytes-there) room fits) refl

    -- It is refused with 13 where there is none.
    pub carried-full : room < length bytes-there → written way doc h inner room ≡ no output_full 0
    unfolding written
    carried-full short = rw (lawful-root way doc h inner ten fair carried, lt-leb (length bytes-there) room short) refl

  -- What an accepted write says.
  pub record Was (room : ℕ) (bs : List ℕ) : Type 0 where
    pub carried : LawfulBy (Carried way) value
    pub is : bs ≡ bytes-there
    pub fits : length bs ≤ room

  pub written-carried : Bytes doc → length doc ≤ document_limit → size (node h inner none) ≤ record_limit → (room : ℕ) (bs : List ℕ) → written way doc h inner room ≡ got bs → Was room bs
  unfolding written
  written-carried bytes few records room bs e =
      let a = then-got (judged way doc depth_limit false 0 none 0 (node h inner none)) _ e in
      let b = guard-got (leb (length bytes-there) room) _ _ _ a.1 in
      let q : bytes-there ≡ bs = cc b.1 in
      record {
        carried = root-lawful way doc h inner ten fair bytes few records a.0;
        is = sym q;
        fits = omega (arith, leb-true (length bytes-there) room b.0, ap length q);
      }
