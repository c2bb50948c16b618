-- Demand 2, said of the calls that people link, against the tag layout (form/specs/Layout.antt) of documents that keep the rules
-- (`LawfulIn`, form/specs/Tree.antt), in every form ([2]): reading accepts the layouts and nothing else, writing gives them back, and what
-- was written, from a table, from a text or from a cut document, is read as what was meant. That the crate does the same in Java's form is
-- shown by runs (docs/DIFFERENCES.md).
-- The proof is in proofs/DemandTwo.antt.
-- Assumes nothing.
use Rattle.std.specs.Prelude.{ℕ, ◌+◌, ◌*◌, ◌≤◌, ◌<◌, ◌≡◌, List, [], ◌∷◌, ◌++◌, length, take}
use Rattle.form.specs.Form.{Form, Way, java, stays}
use Rattle.form.specs.Answer.{got, output_full, document_limit, record_limit}
use Rattle.form.specs.Spans.{over}
use Rattle.form.specs.Tree.{Document, Lawful, LawfulIn, entries_count, LawfulBy}
use Rattle.form.specs.Turned.{Carried, turned, meant}
use Rattle.form.specs.Layout.{LayoutIn, layout_in}
use Rattle.form.specs.Tables.{IsTable, Within}
use Rattle.form.specs.Reading.{room_of}
use Rattle.form.specs.Cut as cut
use Rattle.form.specs.Cut.{Kept, kept_of, line_words}
use Rattle.snbt_form.specs.Text.{Block, parsed, document_of}
use Rattle.calls.specs.Calls.{ReadCalled, WriteCalled, RescueCalled, ParseCalled}
use Rattle.demands.specs.Reading.{Bytes}
use Rattle.demands.specs.Writing.{table_value}
use Rattle.demands.specs.Rescue.{cut_document, document_lines}

-- The words w are a table over doc, and stand for the document d.
pub record Holds (form : Form) (doc w : List ℕ) (d : Document) : Type 0 where
  pub table : IsTable (length doc) w
  pub small : Within (length doc) w
  pub value : table_value form doc w table ≡ d

-- A read answers a with the document d: c bytes are consumed, and the table t' holds d in its first records, one for each tag.
pub record Reads (form : Form) (doc t' a : List ℕ) (c : ℕ) (d : Document) : Type 0 where
  pub records : ℕ
  pub answer : a ≡ 0 ∷ 0 ∷ c ∷ records ∷ 0 ∷ 0 ∷ 0 ∷ 0 ∷ []
  pub each : records ≡ 1 + entries_count d.root
  pub holds : Holds form doc (take (9 * records) t') d

-- A table of so many words has room for the records of a document.
pub record RoomFor (d : Document) (words : ℕ) : Type 0 where
  pub room : 9 * (1 + entries_count d.root) ≤ words
  pub few : 1 + entries_count d.root ≤ record_limit

-- Whoever reads doc, with room for the records of d, gets d of its first c bytes.
abbrev pub ReadAs : Form → List ℕ → ℕ → Document → Type 0
ReadAs form doc c d = Bytes doc → length doc ≤ document_limit → (t t' a : List ℕ) → RoomFor d (length t) → ReadCalled form doc t t' a → Reads form doc t' a c d

-- What writing a document into the output o gives: its layout from 0 on, or 13 where that is longer.
pub record Writes (form : Form) (d : Document) (o o' b : List ℕ) : Type 0 where
  pub enough : length (layout_in form d) ≤ length o → (b ≡ 0 ∷ 0 ∷ length (layout_in form d) ∷ 0 ∷ 0 ∷ 0 ∷ 0 ∷ 0 ∷ []) × (o' ≡ over o 0 (layout_in form d))
  pub short : length o < length (layout_in form d) → (b ≡ output_full ∷ 0 ∷ 0 ∷ 0 ∷ 0 ∷ 0 ∷ 0 ∷ 0 ∷ []) × (o' ≡ o)

-- Whoever rescues doc, the first bytes of the e bytes of d and its root's name among them, with a table of as many words, gets the cut of d
-- and the lines of its open containers, where they have room.
pub record CutRescued (form : Form) (doc : List ℕ) (e words : ℕ) (d : Document) : Type 0 where
  pub rescues : length doc < e → 3 + length d.name ≤ length doc → (t t' o o' c c' b : List ℕ) → length t ≡ words
      → 3 * length (document_lines form d (length doc)) ≤ length c → length (layout_in form (cut_document form d (length doc))) ≤ length o → RescueCalled form doc t t' o o' c c' b
      → (b ≡ 0 ∷ 0 ∷ length (layout_in form (cut_document form d (length doc))) ∷ length (document_lines form d (length doc)) ∷ 0 ∷ 0 ∷ 0 ∷ 0 ∷ [])
      × (o' ≡ over o 0 (layout_in form (cut_document form d (length doc)))) × (c' ≡ over c 0 (line_words (document_lines form d (length doc))))

pub record DemandTwo : Type 0 where
  -- what is accepted is the layout of a lawful document, which the table then holds
  pub sound : (form : Form) (doc t t' a : List ℕ) → Bytes doc → ReadCalled form doc t t' a → (c n : ℕ) → a ≡ 0 ∷ 0 ∷ c ∷ n ∷ 0 ∷ 0 ∷ 0 ∷ 0 ∷ []
      → (d : Document) × LayoutIn form d (take c doc) × LawfulIn form d × Reads form doc t' a c d
  -- every layout of a lawful document within the limits is accepted with that document, whatever follows it
  pub complete : (form : Form) (d : Document) (bs rest : List ℕ) → LayoutIn form d bs → LawfulIn form d → ReadAs form (bs ++ rest) (length bs) d
  -- a table that holds a lawful document is written as its layout
  pub written : (form : Form) (doc w : List ℕ) (d : Document) → Bytes doc → LawfulIn form d → Holds form doc w d → (w' o o' b : List ℕ) → WriteCalled (stays form) doc w w' o o' b
      → Writes form d o o' b
  -- what is written is lawful, and the output, with whatever stands behind, is read as the document that was written
  pub write_back : (form : Form) (doc w w' o o' b : List ℕ) (d : Document) → Bytes doc → Holds form doc w d → WriteCalled (stays form) doc w w' o o' b
      → (c : ℕ) → b ≡ 0 ∷ 0 ∷ c ∷ 0 ∷ 0 ∷ 0 ∷ 0 ∷ 0 ∷ [] → LawfulIn form d × ReadAs form o' c d
  -- a table is converted, where each of its strings can be carried, as the layout of the same document in the other form
  pub converted : (way : Way) (doc w : List ℕ) (d : Document) → Bytes doc → LawfulBy (Carried way) d → Holds way.from doc w d → (w' o o' b : List ℕ) → WriteCalled way doc w w' o o' b
      → Writes way.to (turned way d) o o' b
  -- what a conversion writes has the value that the table holds, and the output, with whatever stands behind, is read as it in the other form
  pub convert_back : (way : Way) (doc w w' o o' b : List ℕ) (d : Document) → Bytes doc → Holds way.from doc w d → WriteCalled way doc w w' o o' b
      → (c : ℕ) → b ≡ 0 ∷ 0 ∷ c ∷ 0 ∷ 0 ∷ 0 ∷ 0 ∷ 0 ∷ [] → LawfulIn way.from d × (meant way.to (turned way d) ≡ meant way.from d) × ReadAs way.to o' c (turned way d)
  -- the document that a text means is lawful, and the output of a parse, with whatever stands behind, is read as that document
  pub parse_back : (t o o' b : List ℕ) → ParseCalled t o o' b → (e c : ℕ) → b ≡ 0 ∷ 0 ∷ e ∷ c ∷ 0 ∷ 0 ∷ 0 ∷ 0 ∷ []
      → (k : Block) × (parsed t (length o) ≡ got k) × Lawful (document_of k) × ReadAs java o' c (document_of k)
  -- what a rescue writes is lawful, and the output, with whatever stands behind, is read as the document of what is kept
  pub rescue_back : (form : Form) (doc t t' o o' c c' b : List ℕ) → Bytes doc → RescueCalled form doc t t' o o' c c' b
      → (n m : ℕ) → b ≡ 0 ∷ 0 ∷ n ∷ m ∷ 0 ∷ 0 ∷ 0 ∷ 0 ∷ []
      → (k : Kept) × (kept_of form doc (room_of (length t)) ≡ got k) × LawfulIn form (cut.document_of form doc k.forest) × ReadAs form o' n (cut.document_of form doc k.forest)
  -- and where the document is accepted when more follows, that is the cut of the document that is then read
  pub rescue_cut : (form : Form) (doc rest t₁ t₁' a : List ℕ) → Bytes (doc ++ rest) → ReadCalled form (doc ++ rest) t₁ t₁' a → (e n : ℕ) → a ≡ 0 ∷ 0 ∷ e ∷ n ∷ 0 ∷ 0 ∷ 0 ∷ 0 ∷ []
      → (d : Document) × Reads form (doc ++ rest) t₁' a e d × CutRescued form doc e (length t₁) d
