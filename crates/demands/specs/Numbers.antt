-- What is claimed of refusals: which of the numbers of documents 01 and 02 each call can refuse with, and no others. The proofs are in
-- proofs/Numbers.antt, those of a rescue and of a move in proofs/Rescue.antt and proofs/Moved.antt, under the names given here.
-- Assumes nothing.
use Rattle.std.specs.Prelude.{ℕ, ◌≤◌, ◌≡◌, List, [], ◌∷◌, Bool, true, length}
use Rattle.form.specs.Form.{Form, Way}
use Rattle.form.specs.Answer.{Out, no, Count, failed}
use Rattle.form.specs.Table.{Head, Forest}
use Rattle.form.specs.Reading.{document_at}
use Rattle.form.specs.Writing.{written, WriteIs}
use Rattle.form.specs.Cut as cut
use Rattle.form.specs.Cut.{rescued}
use Rattle.form.specs.Stored.{bad_line, WriteLinesIs, lines_in, lines_read}
use Rattle.form.specs.Moved.{Edition, MoveIs}
use Rattle.form.specs.Query.{asked, refused, within, QueryIs}
use Rattle.snbt_form.specs.Lexing.{among, Stops, lexed, content}
use Rattle.snbt_form.specs.Text.{parsed}
use Rattle.demands.specs.Reading.{Bytes}

-- ---- reading

-- A read (rules 2 to 5): data ends, root id, tag id, string, count below 0, name twice, depth, table full, document over its limit.
abbrev pub read_numbers : List ℕ
read_numbers = 1 ∷ 2 ∷ 3 ∷ 4 ∷ 5 ∷ 6 ∷ 7 ∷ 8 ∷ 9 ∷ []

-- `read-numbers`: a read refuses with one of these.
abbrev pub IsReadNumbers : Form → Type 0
IsReadNumbers form = (doc : List ℕ) → Bytes doc → (room n p : ℕ) → document_at form doc room ≡ no n p → among read_numbers n ≡ true

-- ---- writing

-- A write (rule 8): string, name twice, depth, input over a limit, no table, mixed list, string over its limit, output full.
abbrev pub write_numbers : List ℕ
write_numbers = 4 ∷ 6 ∷ 7 ∷ 9 ∷ 10 ∷ 11 ∷ 12 ∷ 13 ∷ []

-- Those of the records alone: 9 and 10 come before any record is judged.
abbrev pub written_numbers : List ℕ
written_numbers = 4 ∷ 6 ∷ 7 ∷ 11 ∷ 12 ∷ 13 ∷ []

-- `write-numbers`: records are refused with one of those, whatever records they are.
abbrev pub IsWriteNumbers : Way → Type 0
IsWriteNumbers way =
    (doc : List ℕ) (h : Head) (inner : Forest) (room n p : ℕ) → written way doc h inner room ≡ no n p → among written_numbers n ≡ true

-- `write-refusals`: whoever keeps the promise of a write refuses with one of a write's numbers, the record beside it being 0 but in 4.
abbrev pub IsWriteRefusals : Way → Type 0
IsWriteRefusals way =
    (doc t o : List ℕ) (answer : Count) (o' : List ℕ) (n p r : ℕ) → WriteIs way doc t o answer o' → answer ≡ failed n p r
    → (among write_numbers n ≡ true) × ((n ≡ 4 → ⊥) → r ≡ 0)

-- ---- rescues

-- A rescue ([11]): a read's refusals but that its data ends, output full, more lines than room, not cut, cut in the root's id or name.
abbrev pub rescue_numbers : List ℕ
rescue_numbers = 2 ∷ 3 ∷ 4 ∷ 5 ∷ 6 ∷ 7 ∷ 8 ∷ 9 ∷ 13 ∷ 24 ∷ 31 ∷ 32 ∷ []

-- `rescue-numbers`: a rescue refuses with one of these, the count being 0 but in 24.
abbrev pub IsRescueNumbers : Form → Type 0
IsRescueNumbers form =
    (doc : List ℕ) → Bytes doc → (room lines out n p c : ℕ) → rescued form doc room lines out ≡ cut.refused n p c
    → (among rescue_numbers n ≡ true) × ((n ≡ 24 → ⊥) → c ≡ 0)

-- ---- stored lines

-- Writing lines ([6]): over a limit, no table, output full.
abbrev pub write_lines_numbers : List ℕ
write_lines_numbers = 9 ∷ 10 ∷ 13 ∷ []

-- `write-lines-refusals`: whoever keeps the promise of writing lines refuses with one of these, always at 0.
abbrev pub IsWriteLinesRefusals : Type 0
IsWriteLinesRefusals =
    (d : ℕ) (t o : List ℕ) (answer : Out ℕ) (o' : List ℕ) (n p : ℕ) → WriteLinesIs d t o answer o' → answer ≡ no n p
    → (among write_lines_numbers n ≡ true) × (p ≡ 0)

-- Reading lines back ([6]): table full, over a limit, bad line.
abbrev pub read_lines_numbers : List ℕ
read_lines_numbers = 8 ∷ 9 ∷ 29 ∷ []

-- `read-lines-numbers`: lines are refused with one of these.
abbrev pub IsReadLinesNumbers : Type 0
IsReadLinesNumbers = (w room : ℕ) (s : List ℕ) (n p : ℕ) → lines_read w room s ≡ no n p → among read_lines_numbers n ≡ true

-- A move ([8]): over a limit, no table, output full, bad line.
abbrev pub move_numbers : List ℕ
move_numbers = 9 ∷ 10 ∷ 13 ∷ 29 ∷ []

-- `move-refusals`: whoever keeps the promise of a move refuses with one of these: with 29 at a line's number, from 1 on, else at 0.
abbrev pub IsMoveRefusals : Type 0
IsMoveRefusals =
    (e : Edition) (d : ℕ) (s o : List ℕ) (answer : Out ℕ) (o' : List ℕ) (n p : ℕ) → MoveIs e d s o answer o' → answer ≡ no n p
    → (among move_numbers n ≡ true) × ((n ≡ bad_line → ⊥) → p ≡ 0) × (n ≡ bad_line → (1 ≤ p) × (p ≤ length (lines_in s)))

-- ---- queries

-- A query (rule 9): depth, input over a limit, no table, query malformed, more matches than room.
abbrev pub query_numbers : List ℕ
query_numbers = 7 ∷ 9 ∷ 10 ∷ 14 ∷ 24 ∷ []

-- Those of asking records, before the room is looked at.
abbrev pub asked_numbers : List ℕ
asked_numbers = 7 ∷ 14 ∷ []

-- Those and the room's.
abbrev pub within_numbers : List ℕ
within_numbers = 7 ∷ 14 ∷ 24 ∷ []

-- `query-numbers`: asking records is refused with 7 or 14, whatever records they are.
abbrev pub IsQueryNumbers : Form → Type 0
IsQueryNumbers form =
    (doc q : List ℕ) (h : Head) (inner : Forest) (n p : ℕ) → asked form doc q h inner ≡ no n p → among asked_numbers n ≡ true

-- `within-numbers`: within a room also with 24; a refusal's count is 0 but in 24.
abbrev pub IsWithinNumbers : Form → Type 0
IsWithinNumbers form =
    (doc q : List ℕ) (h : Head) (inner : Forest) (room n p c : ℕ) → within room (asked form doc q h inner) ≡ refused n p c
    → (among within_numbers n ≡ true) × ((n ≡ 24 → ⊥) → c ≡ 0)

-- `query-refusals`: whoever keeps the promise of a query refuses with one of a query's numbers, the count being 0 but in 24.
abbrev pub IsQueryRefusals : Form → Type 0
IsQueryRefusals form =
    (doc t q l : List ℕ) (answer : Count) (l' : List ℕ) (n p c : ℕ) → QueryIs form doc t q l answer l' → answer ≡ failed n p c
    → (among query_numbers n ≡ true) × ((n ≡ 24 → ⊥) → c ≡ 0)

-- ---- texts

-- A single token (rules 10 to 13): text over its limit, not UTF-8 or start off a character, quote open, unknown escape, number, bad hex
-- digit, text ends within an escape, decimal beyond rule 13.
abbrev pub token_numbers : List ℕ
token_numbers = 9 ∷ 15 ∷ 16 ∷ 17 ∷ 18 ∷ 19 ∷ 20 ∷ 23 ∷ []

-- `token-numbers`: a single token is refused with one of these.
abbrev pub IsTokenNumbers : Type 0
IsTokenNumbers = (t : List ℕ) (start : ℕ) (set : Stops) (n p : ℕ) → lexed t start set ≡ no n p → among token_numbers n ≡ true

-- A string token's content (rule 12): text over its limit, output full, not UTF-8 or a span off its characters, unknown escape, bad hex
-- digit, an escape's digits cut.
abbrev pub content_numbers : List ℕ
content_numbers = 9 ∷ 13 ∷ 15 ∷ 17 ∷ 19 ∷ 20 ∷ []

-- `content-numbers`: a content is refused with one of these.
abbrev pub IsContentNumbers : Type 0
IsContentNumbers =
    (t : List ℕ) (start e : ℕ) (inQuotes : Bool) (room n p : ℕ) → content t start e inQuotes room ≡ no n p → among content_numbers n ≡ true

-- A parse (rules 10 to 15): those of its tokens, and name twice, depth, mixed list, string over its limit, output full, trailing comma,
-- unmatched brace.
abbrev pub parse_numbers : List ℕ
parse_numbers = 6 ∷ 7 ∷ 9 ∷ 11 ∷ 12 ∷ 13 ∷ 15 ∷ 16 ∷ 17 ∷ 18 ∷ 19 ∷ 20 ∷ 21 ∷ 22 ∷ 23 ∷ []

-- `parse-numbers`: a text is refused with one of these.
abbrev pub IsParseNumbers : Type 0
IsParseNumbers = (t : List ℕ) (room n p : ℕ) → parsed t room ≡ no n p → among parse_numbers n ≡ true
