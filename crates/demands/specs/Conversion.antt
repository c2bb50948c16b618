-- What is claimed of the conversion ([2]), for every way from a form into a form: what is written is the layout, in the other form, of the same
-- document; it is read back as that; a document that keeps the rules is refused with 12 exactly where some string is too long there; and
-- there and back gives what our writer gives for the first document. The proofs are in proofs/Conversion.antt, under the names given here.
-- Assumes nothing.
use Rattle.std.specs.Prelude.{ℕ, ◌≤◌, ◌<◌, ◌≡◌, ◌↔◌, List, ◌++◌, length}
use Rattle.form.specs.Form.{Way, stays, back}
use Rattle.form.specs.Answer.{got, no, long_string, output_full, document_limit, record_limit}
use Rattle.form.specs.Tree.{Document, LawfulBy, LawfulIn}
use Rattle.form.specs.Layout.{layout_in}
use Rattle.form.specs.Turned.{Carried, turned, meant}
use Rattle.form.specs.Tables.{IsTable, Within}
use Rattle.form.specs.Reading.{One, document_at}
use Rattle.form.specs.Writing.{written}
use Rattle.demands.specs.Reading.{Bytes, Complete}
use Rattle.demands.specs.Writing.{table_value}

-- What an accepted conversion of a table that stands for d says: the bytes are the layout of d in the other form; that has the same value, its
-- strings being the same characters; both keep the rules, each of its own form; and there was room.
pub record Converted (way : Way) (d : Document) (room : ℕ) (bs : List ℕ) : Type 0 where
  pub laid : bs ≡ layout_in way.to (turned way d)
  pub same : meant way.to (turned way d) ≡ meant way.from d
  pub lawful : LawfulIn way.from d
  pub lawful_there : LawfulIn way.to (turned way d)
  pub fits : length bs ≤ room

-- `converted`: whatever table is accepted, with whatever room, the answer says that.
abbrev pub IsConverted : Way → Type 0
IsConverted way =
    (doc w : List ℕ) → Bytes doc → Within (length doc) w → (t : IsTable (length doc) w) (room : ℕ) (bs : List ℕ)
    → written way doc t.head t.inner room ≡ got bs → Converted way (table_value way.from doc w t) room bs

-- `read-there`: what is written is read in the other form, whatever follows it, as that document.
abbrev pub IsReadThere : Way → Type 0
IsReadThere way =
    (doc w : List ℕ) → Bytes doc → Within (length doc) w → (t : IsTable (length doc) w) (room : ℕ) (bs : List ℕ)
    → written way doc t.head t.inner room ≡ got bs
    → (rest : List ℕ) → length (bs ++ rest) ≤ document_limit → Complete way.to (bs ++ rest) record_limit (turned way (table_value way.from doc w t)) bs

-- What a conversion of a document d that keeps the rules of its form gives: 12 exactly where some name or string is too long in the other form;
-- if none is, the layout there, or 13 at 0 where that has no room.
pub record Converts (way : Way) (doc w : List ℕ) (t : IsTable (length doc) w) (room : ℕ) : Type 0 where
  pub long : ((n : ℕ) × (written way doc t.head t.inner room ≡ no long_string n)) ↔ (LawfulBy (Carried way) (table_value way.from doc w t) → ⊥)
  pub fits : LawfulBy (Carried way) (table_value way.from doc w t) → length (layout_in way.to (turned way (table_value way.from doc w t))) ≤ room
      → written way doc t.head t.inner room ≡ got (layout_in way.to (turned way (table_value way.from doc w t)))
  pub full : LawfulBy (Carried way) (table_value way.from doc w t) → room < length (layout_in way.to (turned way (table_value way.from doc w t)))
      → written way doc t.head t.inner room ≡ no output_full 0

-- `converts`: so it is, of every table whose document keeps the rules of its form, as each does that a reader left.
abbrev pub IsConverts : Way → Type 0
IsConverts way =
    (doc w : List ℕ) → Bytes doc → Within (length doc) w → (t : IsTable (length doc) w) (room : ℕ)
    → LawfulIn way.from (table_value way.from doc w t) → Converts way doc w t room

-- What a conversion back gives: the table that reading what was written leaves is written, with whatever room, as the first table is.
pub record Returned (way : Way) (doc w : List ℕ) (t : IsTable (length doc) w) (bs : List ℕ) : Type 0 where
  pub x : One
  pub accepted : document_at way.to bs record_limit ≡ got x
  pub same : (room : ℕ) → written (back way) bs x.head x.inner room ≡ written (stays way.from) doc t.head t.inner room

-- `there_and_back`: so it is, of whatever table is converted into a document that can be read.
abbrev pub IsThereAndBack : Way → Type 0
IsThereAndBack way =
    (doc w : List ℕ) → Bytes doc → Within (length doc) w → (t : IsTable (length doc) w) (room : ℕ) (bs : List ℕ)
    → written way doc t.head t.inner room ≡ got bs → length bs ≤ document_limit → Returned way doc w t bs
