-- Where refusal 4 points (02, [3]), said of the calls that people link: to the first sequence that can't be read, of a string of the document;
-- in a write of a string of the record beside it. Then the same by example. The proofs are in proofs/Characters.antt, under the names given
-- here.
-- Assumes nothing.
use Rattle.std.specs.Prelude.{ℕ, ◌+◌, ◌*◌, ◌≤◌, ◌≡◌, List, [], ◌∷◌, map, length}
use Prim.Native.String as text
use Rattle.form.specs.Form.{Form, Way, java, stays}
use Rattle.form.specs.Answer.{Out, got, no, Count, counted, failed, bad_string}
use Rattle.form.specs.Spans.{part}
use Rattle.form.specs.Strings.{WellFormedIn, FirstBadIn}
use Rattle.form.specs.Decoding.{Verdict, good, bad, verdict}
use Rattle.form.specs.Table.{Head, none, node, head_of}
use Rattle.form.specs.Tables.{IsTable, Within}
use Rattle.form.specs.Reading.{Counts, counts_of, number_at, document_at}
use Rattle.form.specs.Writing.{written, answer_of}
use Rattle.calls.specs.Words.{refusal}
use Rattle.calls.specs.Calls.{ReadCalled, WriteCalled}
use Rattle.demands.specs.Reading.{Bytes}
use Rattle.demands.specs.Marked.{unhex}

-- A string stands whole in the document, from its length at `at` on, and its first sequence that can't be read begins at p.
pub record BrokenString (form : Form) (doc : List ℕ) (p : ℕ) : Type 0 where
  pub at : ℕ
  pub size : ℕ
  pub offset : ℕ
  pub sized : number_at form doc 2 at ≡ got size
  pub whole : at + 2 + size ≤ length doc
  pub first : FirstBadIn form.strings (part doc (at + 2) size) offset
  pub place : p ≡ at + 2 + offset

-- `read-character`: a read that is refused with 4 points there.
abbrev pub IsReadCharacter : Form → Type 0
IsReadCharacter form = (doc t t' : List ℕ) (p : ℕ) → Bytes doc → ReadCalled form doc t t' (refusal bad_string p) → BrokenString form doc p

-- A record's first sequence that can't be read begins at p: in its name; or, where that is well formed, in its string payload.
pub data BrokenRecord (form : Form) (doc : List ℕ) (h : Head) (p : ℕ) : Type 0 where
  in_name : (k : ℕ) → FirstBadIn form.strings (part doc h.name h.name_length) k → p ≡ h.name + k → BrokenRecord form doc h p
  in_string : (k : ℕ) → WellFormedIn form.strings (part doc h.name h.name_length) → h.kind ≡ 8 → FirstBadIn form.strings (part doc h.start h.size) k
      → p ≡ h.start + k → BrokenRecord form doc h p

-- `write-character`: a write of a table that is refused with 4 points there, in the record beside the place, which is one of the table's.
abbrev pub IsWriteCharacter : Way → Type 0
IsWriteCharacter way =
    (doc t t' o o' : List ℕ) (p n : ℕ) → Within (length doc) t → IsTable (length doc) t
    → WriteCalled way doc t t' o o' (bad_string ∷ p ∷ n ∷ 0 ∷ 0 ∷ 0 ∷ 0 ∷ 0 ∷ []) → (9 * n + 9 ≤ length t) × BrokenRecord way.from doc (head_of t n) p

-- ---- by example

-- Bytes in hexadecimal digits, and where the first sequence that can't be read begins.
unfoldable pub strings : List (text.String × Verdict)
strings =
    -- a zero byte, a byte that follows no lead, a form of four bytes, a lead of none: at their own offset
    ("00", bad 0)
    ∷ ("6180", bad 1)
    ∷ ("C3A9F09F9880", bad 2)
    ∷ ("61FF", bad 1)
    -- cut, wrongly continued, overlong: at the lead, never at the byte that breaks the form
    ∷ ("61E282", bad 1)
    ∷ ("E28261", bad 0)
    ∷ ("C1BF", bad 0)
    ∷ ("61E09FBF", bad 1)
    -- a high half that no low half follows, also where what follows can't be read in its own right
    ∷ ("EDA0BD", bad 0)
    ∷ ("61EDA0BD61", bad 1)
    ∷ ("EDA0BD00", bad 0)
    ∷ ("EDA0BDEDB8", bad 0)
    -- a low half by itself, and after a whole pair
    ∷ ("EDB880", bad 0)
    ∷ ("EDA0BDEDB880EDB880", bad 6)
    ∷ ("EDA0BDEDB880", good)
    ∷ []

-- `string-examples`: the definition answers each as it says.
abbrev pub AreStringExamples : Type 0
AreStringExamples = map (λ e. verdict (unhex e.0)) strings ≡ map (λ e. e.1) strings

-- A document, read with room for eight records, and what that answers: a root's name, an entry's name and a string that can't be read.
unfoldable pub reads : List (text.String × Out Counts)
reads =
    ("0A0003E2826100", no bad_string 3)
    ∷ ("0A00000100026180FF00", no bad_string 7)
    ∷ ("0A0000080001610004EDA0BD0000", no bad_string 9)
    ∷ []

-- `read-examples`: the definition answers each as it says.
abbrev pub AreReadExamples : Type 0
AreReadExamples = map (λ e. counts_of (document_at java (unhex e.0) 8)) reads ≡ map (λ e. e.1) reads

-- A document and the words of a root's record and of a string's in it, written with room for 64 bytes, and what that answers: name and
-- string can't be read; the string can't; both can.
unfoldable pub writes : List (text.String × List ℕ × Count)
writes =
    ("0A000008000261800002610000", 10 ∷ 3 ∷ 0 ∷ 0 ∷ 0 ∷ 1 ∷ 0 ∷ 2 ∷ 0 ∷ 8 ∷ 6 ∷ 2 ∷ 10 ∷ 2 ∷ 0 ∷ 0 ∷ 2 ∷ 0 ∷ [], failed bad_string 7 1)
    ∷ ("0A000008000261620002610000", 10 ∷ 3 ∷ 0 ∷ 0 ∷ 0 ∷ 1 ∷ 0 ∷ 2 ∷ 0 ∷ 8 ∷ 6 ∷ 2 ∷ 10 ∷ 2 ∷ 0 ∷ 0 ∷ 2 ∷ 0 ∷ [], failed bad_string 11 1)
    ∷ ("0A000008000261620002616200", 10 ∷ 3 ∷ 0 ∷ 0 ∷ 0 ∷ 1 ∷ 0 ∷ 2 ∷ 0 ∷ 8 ∷ 6 ∷ 2 ∷ 10 ∷ 2 ∷ 0 ∷ 0 ∷ 2 ∷ 0 ∷ [], counted 13)
    ∷ []

-- What writing those two records answers.
abbrev pub written_two : List ℕ → List ℕ → Count
written_two doc t = answer_of (stays java) doc t (written (stays java) doc (head_of t 0) (node (head_of t 1) none none) 64)

-- `write-examples`: the definition answers each as it says.
abbrev pub AreWriteExamples : Type 0
AreWriteExamples = map (λ e. written_two (unhex e.0) e.1) writes ≡ map (λ e. e.2) writes
