-- What the contracts of this crate cite: the answer of the code as the definitions', what there is room for, and what was put there.
-- Assumes nothing.
use Rattle.std.specs.Prelude.{ℕ, ◌+◌, ◌≤◌, ◌≡◌, List, [], ◌++◌, Bool, true, false, Result, Ok, Err, length, eqb, ltb}
use Rattle.form.specs.Form.{Form, Way}
use Rattle.form.specs.Answer.{no, Count, counted, failed}
use Rattle.form.specs.Numbers.{bytes_in}
use Rattle.form.specs.Spans.{part}
use Rattle.form.specs.Layout.{layout_in}
use Rattle.form.specs.Table.{none, node, value_of}
use Rattle.form.specs.Tables.{Within, IsTable}
use Rattle.form.specs.Writing.{WriteGives, written, WriteIs}
use Rattle.recode.specs.Steps.{Puts}
use Rattle.nbt_judging.specs.Pieces.{laid}
use Rattle.nbt_judging.specs.Steps.{Some, One}
use Rattle.form.specs.Refusals.{number_of}
use Rattle.table.specs.declared.Unfit.{Unfit}
use Rattle.table.specs.Check.{verdict_out}
use Rattle.nbt_writer.specs.declared.Unwritten.{Unwritten}

-- 01's number and values for a refusal
abbrev pub unwritten_out : Unwritten → Count
unwritten_out e = failed (number_of e.refusal) e.place e.record

-- and for each case of the public answer
abbrev pub answer_out : Result ℕ Unwritten → Count
answer_out (Ok n) = counted n
answer_out (Err e) = unwritten_out e

-- the refusal that `?` makes of words that are no table: at 0, with no record
abbrev pub UnfitAs : Unfit → Unwritten → Type 0
UnfitAs u e = (verdict_out (Err u) ≡ no (number_of e.refusal) e.place) × (e.record ≡ 0)

-- what stands before a span that is written as it stands: a string's length, an array's count
unfoldable pub length_bytes : Way → ℕ → ℕ → ℕ → List ℕ
length_bytes way kind size count = elim (eqb kind 8) [
  | true ↦ bytes_in way.to.order 2 size
  | false ↦ elim (ltb 6 kind) [ true ↦ bytes_in way.to.order 4 count | false ↦ [] ]
]

-- such a span behind it
abbrev pub same_bytes : Way → List ℕ → ℕ → ℕ → ℕ → ℕ → List ℕ
same_bytes way doc kind count start size = length_bytes way kind size count ++ part doc start size

-- there is room for the bytes of records at `at`
pub record SomeRoom (way : Way) (doc t : List ℕ) (list : Bool) (n end : ℕ) (out : List ℕ) (at : ℕ) : Type 0 where
  pub some : Some doc t list n end
  pub room : at + length (laid way doc list some.forest) ≤ length out

-- and for those of one record
pub record OneRoom (way : Way) (doc t : List ℕ) (list : Bool) (n end : ℕ) (out : List ℕ) (at : ℕ) : Type 0 where
  pub one : One doc t list n end
  pub room : at + length (laid way doc list (node one.head one.inner none)) ≤ length out

-- the bytes of the records from n up to `end` were put there, whichever stand there
abbrev pub PutAllIs : Way → List ℕ → List ℕ → Bool → ℕ → ℕ → List ℕ → ℕ → List ℕ → ℕ → Type 0
PutAllIs way doc t list n end out at out' r =
    (p : SomeRoom way doc t list n end out at) → Puts (laid way doc list p.some.forest) out at out' r

-- and those of one record, with those in it
abbrev pub PutOneIs : Way → List ℕ → List ℕ → Bool → ℕ → ℕ → List ℕ → ℕ → List ℕ → ℕ → Type 0
PutOneIs way doc t list n end out at out' r =
    (p : OneRoom way doc t list n end out at) → Puts (laid way doc list (node p.one.head p.one.inner none)) out at out' r

-- the words form a table, and the limits are kept
pub record Formed (doc t : List ℕ) : Type 0 where
  pub small : Within (length doc) t
  pub table : IsTable (length doc) t

-- the words form a table, and there is room for the layout of the document that it stands for
pub record Fits (form : Form) (doc t out : List ℕ) : Type 0 where
  pub formed : Formed doc t
  pub room : length (layout_in form (value_of form doc formed.table.head formed.table.inner)) ≤ length out

-- and that was put at the front of the output
abbrev pub PutIs : Form → List ℕ → List ℕ → List ℕ → List ℕ → ℕ → Type 0
PutIs form doc t out out' r = (i : IsTable (length doc) t) → Puts (layout_in form (value_of form doc i.head i.inner)) out 0 out' r

-- what a table gives
abbrev pub WrittenIs : Way → List ℕ → List ℕ → List ℕ → Result ℕ Unwritten → List ℕ → Type 0
WrittenIs way doc t o r o' = (i : IsTable (length doc) t) → WriteGives way doc t (written way doc i.head i.inner (length o)) o (answer_out r) o'

-- the promise of a write: the answer and every byte of the output, and the table as it was
pub record WroteIs (way : Way) (doc t t' o : List ℕ) (answer : Count) (o' : List ℕ) : Type 0 where
  pub is : WriteIs way doc t o answer o'
  pub kept : t' ≡ t
