-- What is claimed of texts: what a text means keeps the rules, its layout is what the output has room for and begins with, and reading
-- that layout gives the document again. The proofs are in proofs/Texts.antt, under the names given here.
-- Assumes nothing.
use Rattle.std.specs.Prelude.{ℕ, ◌+◌, ◌≤◌, ◌<◌, ◌≡◌, ◌↔◌, List, ◌++◌, length, take}
use Rattle.form.specs.Form.{java}
use Rattle.form.specs.Answer.{Out, got, no, over_limit, bad_text, document_limit, text_limit}
use Rattle.form.specs.Strings.{WellFormedUtf8}
use Rattle.form.specs.Tree.{Lawful, entries_count}
use Rattle.form.specs.Layout.{layout}
use Rattle.snbt_form.specs.Lexing.{judged_text}
use Rattle.snbt_form.specs.Text.{Block, parsed, document_of, Lengths, ParseIs}
use Rattle.demands.specs.Reading.{Complete}

-- What is judged before any token, refusals 9 and 15, told by the declared UTF-8 (form/specs/Strings.antt) and not by its computed test.
pub record TextJudged (t : List ℕ) : Type 0 where
  pub fine : (judged_text t ≡ got tt) ↔ ((length t ≤ text_limit) × WellFormedUtf8 t)
  pub large : (judged_text t ≡ no over_limit 0) ↔ (text_limit < length t)
  pub bad : (judged_text t ≡ no bad_text 0) ↔ ((length t ≤ text_limit) × (WellFormedUtf8 t → ⊥))

-- `text-judged`: every text is judged so: 9 exactly if it is too long, else 15 exactly if it is not the encoding of some scalar values.
abbrev pub IsTextJudged : Type 0
IsTextJudged = (t : List ℕ) → TextJudged t

-- `lawful-text`: the document that an accepted text means keeps the rules and the limits.
abbrev pub IsLawfulText : Type 0
IsLawfulText = (t : List ℕ) (room : ℕ) (b : Block) → parsed t room ≡ got b → Lawful (document_of b)

-- `text-fills`: the bytes counted, token by token, are those of the document's layout, and there was room for them.
abbrev pub IsTextFills : Type 0
IsTextFills = (t : List ℕ) (room : ℕ) (b : Block) → parsed t room ≡ got b → (b.used ≡ length (layout (document_of b))) × (b.used ≤ room)

-- `text-consumed`: no more of the text is consumed than there is.
abbrev pub IsTextConsumed : Type 0
IsTextConsumed = (t : List ℕ) (room : ℕ) (b : Block) → parsed t room ≡ got b → b.next ≤ length t

-- `text-output`: whoever keeps the promise of a parse leaves, of an accepted text, an output as long as it was that begins with the layout.
abbrev pub IsTextOutput : Type 0
IsTextOutput =
    (t o : List ℕ) (b : Block) (answer : Out Lengths) (o' : List ℕ) → parsed t (length o) ≡ got b → ParseIs t o answer o'
    → (length o' ≡ length o) × (take b.used o' ≡ layout (document_of b))

-- `text-read-back`: the layout of an accepted text's document is read back, whatever follows it, as that document, where there is room for
-- its records and the whole is no longer than a document may be.
abbrev pub IsTextReadBack : Type 0
IsTextReadBack =
    (t : List ℕ) (room : ℕ) (b : Block) → parsed t room ≡ got b → (rest : List ℕ) → length (layout (document_of b) ++ rest) ≤ document_limit
    → (records : ℕ) → 1 + entries_count b.entries ≤ records
    → Complete java (layout (document_of b) ++ rest) records (document_of b) (layout (document_of b))

-- `text-never-zero`: a refusal has a number of document 01: the 0 that stands in a definition for a bound that runs out is never answered.
abbrev pub IsTextNeverZero : Type 0
IsTextNeverZero = (t : List ℕ) (room p : ℕ) → parsed t room ≡ no 0 p → ⊥

-- `one-text-answer`: two outcomes that the promise of a parse allows are one.
abbrev pub IsOneTextAnswer : Type 0
IsOneTextAnswer =
    (t o : List ℕ) (a₁ a₂ : Out Lengths) (o₁ o₂ : List ℕ) → ParseIs t o a₁ o₁ → ParseIs t o a₂ o₂ → (a₁ ≡ a₂) × (o₁ ≡ o₂)
