-- What each exported call promises: every word of its answer and every byte and word that it may change, for every input.
-- crates/call_… keep these promises, crates/nbt hands them on under C names, and crates/demands ties them to the three demands.
-- Assumes nothing.
use Rattle.std.specs.Prelude.{ℕ, ◌≡◌, List, [], ◌∷◌, not, eqb, length}
use Rattle.form.specs.Answer.{Out, over_limit, Count}
use Rattle.form.specs.Form.{Form, Way, Rule}
use Rattle.form.specs.Strings.{enc_of}
use Rattle.form.specs.Decoding.{Verdict, one_of, Judged}
use Rattle.form.specs.Tables.{IsTable, Within}
use Rattle.form.specs.Reading.{counts_of, reading, table_after}
use Rattle.form.specs.Writing.{WriteIs, length_of, output_after}
use Rattle.form.specs.Cut.{rescuing, sizes_of, bytes_after, lines_after}
use Rattle.form.specs.Stored.{WriteLinesIs, reading_lines, records_of, words_after}
use Rattle.form.specs.Moved.{Edition, MoveIs}
use Rattle.form.specs.Query.{QueryIs}
use Rattle.snbt_form.specs.Lexing.{lexed, content}
use Rattle.snbt_form.specs.Text as text
use Rattle.snbt_form.specs.Text.{parsed, lengths_of}
use Rattle.calls.specs.Words.{accepted, refusal, verdict_words, read_words, count_words, beside_words, rescue_words, token_words, stops_of, parse_words}

-- A check of a string by a rule, whose refusal has the number n, which is 4 of a document's string and 15 of a text: accepted exactly if the
-- bytes are the encoding of some scalar values, else refused where the first sequence that can't be read begins.
pub record StringCalled (r : Rule) (n : ℕ) (s answer : List ℕ) : Type 0 where
  pub result : Verdict
  pub judged : Judged (enc_of r) (one_of r) s result
  pub words_are : answer ≡ verdict_words n result

-- A read of a document in a form (rules 3 to 6; [2]): every word of the answer and of the table.
pub record ReadCalled (form : Form) (doc t t' answer : List ℕ) : Type 0 where
  pub answer_is : answer ≡ read_words (counts_of (reading form doc t))
  pub table_is : t' ≡ table_after (reading form doc t) t

-- A check of a table's words over a document of d bytes (rule 7): 9 where a limit is passed; else 1 or 0 in word 2, for whether the words
-- form a table.
pub record TableCalled (d : ℕ) (t answer : List ℕ) : Type 0 where
  pub large : (Within d t → ⊥) → answer ≡ refusal over_limit 0
  pub unfit : Within d t → (IsTable d t → ⊥) → answer ≡ accepted
  pub fit : Within d t → IsTable d t → answer ≡ 0 ∷ 0 ∷ 1 ∷ 0 ∷ 0 ∷ 0 ∷ 0 ∷ 0 ∷ []

-- A write in the form of the document or in another ([2]): rule 8's answer in the words, every byte of the output, and the table as it was.
pub record WriteCalled (way : Way) (doc t t' o o' answer : List ℕ) : Type 0 where
  pub result : Count
  pub is : WriteIs way doc t o result o'
  pub words_are : answer ≡ beside_words result
  pub kept : t' ≡ t

-- A rescue of a document in a form ([11], [2]): every word of the answer and of the changes, every byte of the output, and the table as the
-- read leaves it.
pub record RescueCalled (form : Form) (doc t t' o o' c c' answer : List ℕ) : Type 0 where
  pub answer_is : answer ≡ rescue_words (sizes_of (rescuing form doc t o c))
  pub table_is : t' ≡ table_after (reading form doc t) t
  pub output_is : o' ≡ bytes_after (rescuing form doc t o c) o
  pub changes_is : c' ≡ lines_after (rescuing form doc t o c) c

-- Writing the lines of a table over a document of d bytes ([6]): the answer in the words, and every byte of the output.
pub record WriteLinesCalled (d : ℕ) (t o o' answer : List ℕ) : Type 0 where
  pub result : Out ℕ
  pub is : WriteLinesIs d t o result o'
  pub words_are : answer ≡ count_words result

-- Reading lines back ([6]): every word of the answer and of the table.
pub record ReadLinesCalled (s t t' answer : List ℕ) : Type 0 where
  pub answer_is : answer ≡ count_words (records_of (reading_lines s t))
  pub table_is : t' ≡ words_after (reading_lines s t) t

-- Moving lines of edition e to the other edition, over a document of d bytes ([8]): the answer in the words, and every byte of the output.
pub record MoveCalled (e : Edition) (d : ℕ) (s o o' answer : List ℕ) : Type 0 where
  pub result : Out ℕ
  pub is : MoveIs e d s o result o'
  pub words_are : answer ≡ count_words result

-- A query of a document in a form: rule 9's answer in the words, and every word of the list.
pub record QueryCalled (form : Form) (doc t q l l' answer : List ℕ) : Type 0 where
  pub result : Count
  pub is : QueryIs form doc t q l result l'
  pub words_are : answer ≡ beside_words result

-- A token (rules 10 to 13), for a stop set by its number.
pub record TokenCalled (t : List ℕ) (start stops : ℕ) (answer : List ℕ) : Type 0 where
  pub answer_is : answer ≡ token_words (lexed t start (stops_of stops))

-- A content: rule 12's answer in the words, and every byte of the output. Any number but 0 is quoted.
pub record ContentCalled (t : List ℕ) (start e quoted : ℕ) (o o' answer : List ℕ) : Type 0 where
  pub answer_is : answer ≡ count_words (length_of (content t start e (not (eqb quoted 0)) (length o)))
  pub output_is : o' ≡ output_after (content t start e (not (eqb quoted 0)) (length o)) o

-- A parse (rules 14 and 15): every word of the answer and every byte of the output.
pub record ParseCalled (t o o' answer : List ℕ) : Type 0 where
  pub answer_is : answer ≡ parse_words (lengths_of (parsed t (length o)))
  pub output_is : o' ≡ text.output_after (parsed t (length o)) o
