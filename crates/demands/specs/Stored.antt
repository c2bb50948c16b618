-- What is claimed of stored lines ([6]): which bytes are lines, and that words and lines come back. The proofs are in proofs/Stored.antt, under
-- the names given here; that examples hold is shown there by computing.
-- Assumes nothing.
use Rattle.std.specs.Prelude.{ℕ, suc, ◌+◌, ◌*◌, ◌/◌, ◌^◌, ◌≤◌, ◌<◌, ◌≡◌, true, false, ◌↔◌, ◌⊎◌, List, [], ◌∷◌, ◌++◌, map, length, get_or, take}
use Rattle.form.specs.Answer.{Out, got, no, table_full, over_limit, document_limit, record_limit}
use Rattle.form.specs.Spans.{over}
use Rattle.form.specs.Tables.{IsTable}
use Rattle.form.specs.Stored.{bad_line, lines_of, TextLine, lines_in, is_line, lines_read, WriteLinesIs}
use Rattle.calls.specs.Calls.{WriteLinesCalled, ReadLinesCalled}
use Rattle.demands.specs.Marked.{ascii}

-- Words of 32 bits, as every table has.
abbrev pub Words : List ℕ → Type 0
Words t = (i : ℕ) → get_or t i 0 < 2 ^ 32

-- The bytes s are the lines of the words ws, which are whole records of w words, within the limit and a room.
pub record AreLines (w room : ℕ) (s ws : List ℕ) : Type 0 where
  pub records : ℕ
  pub long : length ws ≡ w * records
  pub small : Words ws
  pub few : records ≤ record_limit
  pub roomy : records ≤ room
  pub these : s ≡ lines_of w records ws

-- `lines_are`: bytes are accepted with some words exactly if they are the lines of those words, however many words a record has; no two texts
-- have the same words, and no text two lists of words.
abbrev pub IsLinesAre : Type 0
IsLinesAre = (w room : ℕ) (s ws : List ℕ) → lines_read w room s ≡ got ws ↔ AreLines w room s ws

-- Lines that are good, each of them.
abbrev pub AllGood : ℕ → List TextLine → Type 0
AllGood w [] = Unit {0}
AllGood w (l ∷ ls) = (is_line w l ≡ true) × AllGood w ls

-- Why the line with the number p can't be taken: it is bad (29), or good and the first without room (8).
abbrev pub Fault : ℕ → ℕ → TextLine → ℕ → ℕ → Type 0
Fault w room l n p = ((n ≡ bad_line) × (is_line w l ≡ false)) ⊎ ((n ≡ table_full) × (is_line w l ≡ true) × (p ≡ suc room))

-- The first of some lines, the first of which has the number k, that can't be taken: those before it are good and have room.
pub record FirstRefused (w room k : ℕ) (lines : List TextLine) (n p : ℕ) : Type 0 where
  pub before : List TextLine
  pub line : TextLine
  pub later : List TextLine
  pub lines_are : lines ≡ before ++ (line ∷ later)
  pub good : AllGood w before
  pub roomy : k + length before ≤ suc room
  pub place : p ≡ k + length before
  pub why : Fault w room line n p

-- `lines-refused`: above the limit lines are refused with 9 at 0; else those that are refused are so at the first that can't be taken,
-- numbered from 1.
abbrev pub IsLinesRefused : Type 0
IsLinesRefused =
    (w room : ℕ) (s : List ℕ) (n p : ℕ) → lines_read w room s ≡ no n p
    → ((record_limit < length (lines_in s)) × (n ≡ over_limit) × (p ≡ 0)) ⊎ ((length (lines_in s) ≤ record_limit) × FirstRefused w room 1 (lines_in s) n p)

-- `lines-back`: whoever writes the lines of a table, and reads the bytes written into as many words or more, gets the same words.
abbrev pub IsLinesBack : Type 0
IsLinesBack =
    (d : ℕ) (t o o' a : List ℕ) → Words t → WriteLinesCalled d t o o' a → (c : ℕ) → a ≡ 0 ∷ 0 ∷ c ∷ 0 ∷ 0 ∷ 0 ∷ 0 ∷ 0 ∷ []
    → (u u' b : List ℕ) → length t ≤ length u → ReadLinesCalled (take c o') u u' b
    → (b ≡ 0 ∷ 0 ∷ length t / 9 ∷ 0 ∷ 0 ∷ 0 ∷ 0 ∷ 0 ∷ []) × (u' ≡ over u 0 t)

-- `words_back`: whoever reads lines, and writes the words read, gets the same lines where there is room, on one condition: that the words
-- form a table over the document whose length the writer is told. Other words are refused with 10.
abbrev pub IsWordsBack : Type 0
IsWordsBack =
    (s t t' a : List ℕ) → ReadLinesCalled s t t' a → (n : ℕ) → a ≡ 0 ∷ 0 ∷ n ∷ 0 ∷ 0 ∷ 0 ∷ 0 ∷ 0 ∷ []
    → (d : ℕ) → d ≤ document_limit → IsTable d (take (9 * n) t')
    → (o o' b : List ℕ) → length s ≤ length o → WriteLinesCalled d (take (9 * n) t') o o' b
    → (b ≡ 0 ∷ 0 ∷ length s ∷ 0 ∷ 0 ∷ 0 ∷ 0 ∷ 0 ∷ []) × (o' ≡ over o 0 s)

-- `one-write-lines`: two outcomes that the promise of writing lines allows are one. That of reading them is one equation for each word.
abbrev pub IsOneWriteLines : Type 0
IsOneWriteLines =
    (d : ℕ) (t o : List ℕ) (a₁ a₂ : Out ℕ) (o₁ o₂ : List ℕ) → WriteLinesIs d t o a₁ o₁ → WriteLinesIs d t o a₂ o₂ → (a₁ ≡ a₂) × (o₁ ≡ o₂)

-- ---- by example

-- A text and a room in records.
pub data Stored : Type 0 where
  stored : List ℕ → ℕ → Stored

abbrev pub answer_to : Stored → Out (List ℕ)
answer_to (stored s room) = lines_read 9 room s

-- The line of the record 10 3 0 0 0 0 0 1 0, without its line feed; a capital in the place of its a; and a line feed.
abbrev pub smallest : List ℕ
smallest = ascii "0000000a0000000300000000000000000000000000000000000000000000000100000000"

abbrev pub capital : List ℕ
capital = ascii "0000000A0000000300000000000000000000000000000000000000000000000100000000"

abbrev pub feed : List ℕ
feed = 10 ∷ []

unfoldable pub examples : List (Stored × Out (List ℕ))
examples =
    -- no line, with no room; one line
    (stored [] 0, got [])
    ∷ (stored (smallest ++ feed) 1, got (10 ∷ 3 ∷ 0 ∷ 0 ∷ 0 ∷ 0 ∷ 0 ∷ 1 ∷ 0 ∷ []))
    -- not ended; ended by a carriage return as well; a capital; a digit short, and one over; a word short, as before [7];
    -- an empty line
    ∷ (stored smallest 1, no 29 1)
    ∷ (stored (smallest ++ (13 ∷ feed)) 1, no 29 1)
    ∷ (stored (capital ++ feed) 1, no 29 1)
    ∷ (stored (take 71 smallest ++ feed) 1, no 29 1)
    ∷ (stored (smallest ++ (48 ∷ feed)) 1, no 29 1)
    ∷ (stored (take 64 smallest ++ feed) 1, no 29 1)
    ∷ (stored (smallest ++ feed ++ feed) 2, no 29 2)
    -- no room; in one line 29 comes before 8, and a line's 8 before the next line's 29
    ∷ (stored (smallest ++ feed) 0, no 8 1)
    ∷ (stored (capital ++ feed) 0, no 29 1)
    ∷ (stored (smallest ++ feed ++ capital ++ feed) 0, no 8 1)
    ∷ []

-- `stored-examples`: the definition answers each as it says.
abbrev pub AreStoredExamples : Type 0
AreStoredExamples = map (λ r. answer_to r.0) examples ≡ map (λ r. r.1) examples
