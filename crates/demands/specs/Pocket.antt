-- Request [2] by example: documents, writes, conversions and queries in the pocket edition's form. What holds of every form, and so of this one, stands with
-- each demand; here the definitions are computed.
-- Assumes nothing.
use Rattle.std.specs.Prelude.{ℕ, ◌≡◌, List, [], ◌∷◌, map}
use Prim.Native.String as text
use Rattle.form.specs.Answer.{Out, got, no}
use Rattle.form.specs.Form.{Way, java, pocket, way_from, stays}
use Rattle.form.specs.Reading.{document_at}
use Rattle.demands.specs.Marked.{unhex, read_answer, write_answer, ask_answer}

-- What is asked, in hexadecimal digits: a document to read, with room for eight records; the table of a document to write, with room for 64
-- bytes; a document and a query of it.
pub data Tried : Type 0 where
  read : text.String → Tried
  write : text.String → Tried
  ask : text.String → text.String → Tried

-- What the definitions answer.
abbrev pub tried_answer : Tried → Out (List ℕ)
tried_answer (read doc) = read_answer (document_at pocket (unhex doc) 8)
tried_answer (write doc) = write_answer (stays pocket) (unhex doc) (document_at pocket (unhex doc) 8)
tried_answer (ask doc q) = ask_answer pocket (unhex doc) (unhex q) (document_at pocket (unhex doc) 8)

unfoldable pub tries : List (Tried × Out (List ℕ))
tries =
    -- a name's length has its lowest byte first; the records are those of the Java document with the same values
    (read "0A01006101010062FF00", got (10 ∷ 10 ∷ 3 ∷ 1 ∷ 0 ∷ 0 ∷ 1 ∷ 0 ∷ 2 ∷ 0 ∷ 1 ∷ 7 ∷ 1 ∷ 8 ∷ 1 ∷ 0 ∷ 0 ∷ 2 ∷ 0 ∷ []))
    -- so has the count of an array; the Java document with these bytes would be cut
    ∷ (read "0A00000B01006101000000FFFFFFFF00", got (16 ∷ 10 ∷ 3 ∷ 0 ∷ 0 ∷ 0 ∷ 1 ∷ 0 ∷ 2 ∷ 0 ∷ 11 ∷ 6 ∷ 1 ∷ 11 ∷ 4 ∷ 1 ∷ 0 ∷ 2 ∷ 0 ∷ []))
    -- a count is below 0 where its last byte is 80 or more: 5; 80000000 is 128 elements, which aren't there: 1
    ∷ (read "0A00000901006C010000008000", no 5 8)
    ∷ (read "0A00000901006C0180000000", no 1 12)
    -- a zero byte is U+0000; C0 80 and the halves of a pair are 4 at their own place, four bytes are one character
    ∷ (read "0A00000801006101000000", got (11 ∷ 10 ∷ 3 ∷ 0 ∷ 0 ∷ 0 ∷ 1 ∷ 0 ∷ 2 ∷ 0 ∷ 8 ∷ 6 ∷ 1 ∷ 9 ∷ 1 ∷ 0 ∷ 0 ∷ 2 ∷ 0 ∷ []))
    ∷ (read "0A000008010061030061C08000", no 4 10)
    ∷ (read "0A0000080100610600EDA0BDEDB88000", no 4 9)
    ∷ (read "0A0000080100610400F09F988000", got (14 ∷ 10 ∷ 3 ∷ 0 ∷ 0 ∷ 0 ∷ 1 ∷ 0 ∷ 2 ∷ 0 ∷ 8 ∷ 6 ∷ 1 ∷ 9 ∷ 4 ∷ 0 ∷ 0 ∷ 2 ∷ 0 ∷ []))
    -- an empty list is written with id 0, and counts as they were
    ∷ (write "0A01006E0901006C050000000000", got (unhex "0A01006E0901006C000000000000"))
    ∷ (write "0A00000C0100610100000001020304050607080000", got (unhex "0A00000C01006101000000010203040506070800"))
    -- a query's own length is big-endian; its name is in the document's string rule
    ∷ (ask "0A0000010200C3A90500" "010002C3A9", got (1 ∷ []))
    ∷ (ask "0A0000010200C3A90500" "010200C3A9", no 14 0)
    ∷ (ask "0A0000010100000500" "01000100", got (1 ∷ []))
    ∷ (ask "0A0000010100000500" "010002C080", no 14 0)
    ∷ []

-- `pocket-examples`: the definitions answer each as it says.
abbrev pub ArePocketExamples : Type 0
ArePocketExamples = map (λ e. tried_answer e.0) tries ≡ map (λ e. e.1) tries

-- A way, a document in the form that it comes from, and what is written of its table, in hexadecimal digits.
unfoldable pub conversions : List (Way × text.String × text.String)
conversions =
    -- a long is turned as a whole, the longs of an array one by one, and a float's bits are kept
    (way_from java pocket, "0A0000040001610102030405060708060001627FF000000000000100", "0A000004010061080706050403020106010062010000000000F07F00")
    ∷ (way_from pocket java, "0A00000C010061020000000807060504030201100F0E0D0C0B0A0900", "0A00000C000161000000020102030405060708090A0B0C0D0E0F1000")
    -- a string keeps its characters: U+0000 is C0 80 and 00, a pair four bytes, and é the same two in both forms
    ∷ (way_from java pocket, "0A0000080001610002C08000", "0A00000801006101000000")
    ∷ (way_from pocket java, "0A00000801006101000000", "0A0000080001610002C08000")
    ∷ (way_from java pocket, "0A0006EDA0BDEDB88000", "0A0400F09F988000")
    ∷ (way_from pocket java, "0A0400F09F988000", "0A0006EDA0BDEDB88000")
    ∷ (way_from java pocket, "0A0002C3A900", "0A0200C3A900")
    -- an empty list is written with id 0, and into the same form a conversion is a write
    ∷ (way_from java pocket, "0A00000900016C050000000000", "0A00000901006C000000000000")
    ∷ (way_from pocket pocket, "0A01006E0901006C050000000000", "0A01006E0901006C000000000000")
    ∷ []

-- `conversion-examples`: the definitions convert each as it says.
abbrev pub AreConversionExamples : Type 0
AreConversionExamples = map (λ e. write_answer e.0 (unhex e.1) (document_at e.0.from (unhex e.1) 8)) conversions ≡ map (λ e. got (unhex e.2)) conversions
