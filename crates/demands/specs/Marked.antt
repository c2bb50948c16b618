-- The marked records of document 01 that are proved (P), in one list: what is asked, and what is answered. proofs/Marked.antt shows by
-- computing that the definitions answer so.
-- Assumes nothing.
use Rattle.std.specs.Prelude.{ℕ, ◌+◌, ◌*◌, ◌≡◌, List, [], ◌∷◌, map}
use Prim.Native.Char.{code}
use Prim.Native.String as text
use Rattle.std.specs.Float.{binary64}
use Rattle.std.specs.Float.Ieee.{to_bits}
use Rattle.form.specs.Form.{Form, Way, java, stays}
use Rattle.form.specs.Answer.{Out, got, no, ◌>>=◌}
use Rattle.form.specs.Numbers.{bits_of}
use Rattle.form.specs.Layout.{layout}
use Rattle.form.specs.Decoding.{Sequence, is, stuck, scalar_of}
use Rattle.form.specs.Table.{none, node, flat}
use Rattle.form.specs.Reading.{One, document_at}
use Rattle.form.specs.Writing.{written}
use Rattle.form.specs.Query.{asked}
use Rattle.snbt_form.specs.Numbers.{byte, short, int, long, float, double}
use Rattle.snbt_form.specs.Lexing.{Stops, default, later, hex_of, Token, open_curly, closed_curly, open_square, closed_square, comma, colon, semicolon, string, numeral, Lexed, found, ended, lexed, content}
use Rattle.snbt_form.specs.Text.{Block, parsed, document_of}

-- The bytes of an ASCII text.
unfoldable pub ascii : text.String → List ℕ
ascii text.[] = []
ascii (text.◌∷◌ c s) = code c ∷ ascii s

-- The bytes that pairs of hexadecimal digits stand for.
unfoldable pub bytes_in : List ℕ → List ℕ
bytes_in [] = []
bytes_in (a ∷ []) = []
bytes_in (a ∷ b ∷ l) = (hex_of a * 16 + hex_of b) ∷ bytes_in l

-- Bytes as document 01 writes them.
abbrev pub unhex : text.String → List ℕ
unhex s = bytes_in (ascii s)

-- What a marked record asks, in hexadecimal where it asks of bytes: a document to read, with room for eight records; the table of a document to write, with room for 64 bytes;
-- what some bytes of modified UTF-8 begin with; a document and a query of it; a text's first token, for a stop set; or a text to parse,
-- with room for 15 bytes.
pub data Asked : Type 0 where
  read : text.String → Asked
  write : text.String → Asked
  scalar : text.String → Asked
  ask : text.String → text.String → Asked
  token : text.String → Stops → Asked
  parse : text.String → Asked

-- A read as numbers: the bytes consumed, then the words of the records; or the refusal's number and place.
abbrev pub read_answer : Out One → Out (List ℕ)
read_answer (got x) = got (x.next ∷ flat 0 0 (node x.head x.inner none))
read_answer (no n p) = no n p

-- A write as numbers: the bytes written, of the document as it was read; or the refusal's number and where it was judged.
abbrev pub write_answer : Way → List ℕ → Out One → Out (List ℕ)
write_answer way doc (got x) = written way doc x.head x.inner 64
write_answer way doc (no n p) = no n p

-- A scalar value as numbers: the value, then how many bytes it takes; or refusal 4.
abbrev pub scalar_answer : Sequence → Out (List ℕ)
scalar_answer (is c n) = got (c ∷ n ∷ [])
scalar_answer stuck = no 4 0

-- A query as numbers: the matches, of the document as it was read; or the refusal's number and place.
abbrev pub ask_answer : Form → List ℕ → List ℕ → Out One → Out (List ℕ)
ask_answer form doc q (got x) = asked form doc q x.head x.inner
ask_answer form doc q (no n p) = no n p

-- What a token means as numbers: of a string 8 and the bytes of its content, of a number its kind and the 64 bits that it carries, of a
-- sign the character.
abbrev pub meaning : List ℕ → Token → Out (List ℕ)
meaning t open_curly = got (123 ∷ [])
meaning t closed_curly = got (125 ∷ [])
meaning t open_square = got (91 ∷ [])
meaning t closed_square = got (93 ∷ [])
meaning t comma = got (44 ∷ [])
meaning t colon = got (58 ∷ [])
meaning t semicolon = got (59 ∷ [])
meaning t (string q a e) = do
  s ← content t a e q 15
  got (8 ∷ s)
meaning t (numeral (byte z)) = got (1 ∷ bits_of 8 z ∷ [])
meaning t (numeral (short z)) = got (2 ∷ bits_of 8 z ∷ [])
meaning t (numeral (int z)) = got (3 ∷ bits_of 8 z ∷ [])
meaning t (numeral (long z)) = got (4 ∷ bits_of 8 z ∷ [])
meaning t (numeral (float x)) = got (5 ∷ to_bits binary64 x ∷ [])
meaning t (numeral (double x)) = got (6 ∷ to_bits binary64 x ∷ [])

-- A token as numbers: its width, the next place, then what it means; the end of the text as its place.
abbrev pub token_answer : List ℕ → Out Lexed → Out (List ℕ)
token_answer t (got (found d n)) = do
  m ← meaning t d.token
  got (d.width ∷ n ∷ m)
token_answer t (got (ended p)) = got (p ∷ [])
token_answer t (no n p) = no n p

-- A parse as numbers: the bytes consumed, then the bytes of the document.
abbrev pub parse_answer : Out Block → Out (List ℕ)
parse_answer (got b) = got (b.next ∷ layout (document_of b))
parse_answer (no n p) = no n p

-- What the definitions answer.
abbrev pub answer_to : Asked → Out (List ℕ)
answer_to (read doc) = read_answer (document_at java (unhex doc) 8)
answer_to (write doc) = write_answer (stays java) (unhex doc) (document_at java (unhex doc) 8)
answer_to (scalar bs) = scalar_answer (scalar_of (unhex bs))
answer_to (ask doc q) = ask_answer java (unhex doc) (unhex q) (document_at java (unhex doc) 8)
answer_to (token t set) = token_answer (ascii t) (lexed (ascii t) 0 set)
answer_to (parse t) = parse_answer (parsed (ascii t) 15)

-- The records, as document 01 writes them.
unfoldable pub records : List (Asked × Out (List ℕ))
records =
    -- 0A0000: 1 at 3. 0A000000: 4 consumed, record 10 3 0 0 0 0 0 1 0.
    (read "0A0000", no 1 3)
    ∷ (read "0A000000", got (4 ∷ 10 ∷ 3 ∷ 0 ∷ 0 ∷ 0 ∷ 0 ∷ 0 ∷ 1 ∷ 0 ∷ []))
    -- 10 consumed, records 10 3 1 0 0 1 0 2 0 and 1 7 1 8 1 0 0 2 0. Queries 04 and 04 04: 0, 1. Query 03: 1.
    ∷ (read "0A00016101000162FF00", got (10 ∷ 10 ∷ 3 ∷ 1 ∷ 0 ∷ 0 ∷ 1 ∷ 0 ∷ 2 ∷ 0 ∷ 1 ∷ 7 ∷ 1 ∷ 8 ∷ 1 ∷ 0 ∷ 0 ∷ 2 ∷ 0 ∷ []))
    ∷ (ask "0A00016101000162FF00" "04", got (0 ∷ 1 ∷ []))
    ∷ (ask "0A00016101000162FF00" "0404", got (0 ∷ 1 ∷ []))
    ∷ (ask "0A00016101000162FF00" "03", got (1 ∷ []))
    -- accepted; written with byte 7 as 00. With 0D at byte 7: 3 at 7. With 01 there and count FFFFFFFF: 5 at 8.
    ∷ (read "0A00000900016C050000000000", got (13 ∷ 10 ∷ 3 ∷ 0 ∷ 0 ∷ 0 ∷ 1 ∷ 0 ∷ 2 ∷ 0 ∷ 9 ∷ 6 ∷ 1 ∷ 0 ∷ 0 ∷ 0 ∷ 0 ∷ 2 ∷ 0 ∷ []))
    ∷ (write "0A00000900016C050000000000", got (unhex "0A00000900016C000000000000"))
    ∷ (read "0A00000900016C0D0000000000", no 3 7)
    ∷ (read "0A00000900016C01FFFFFFFF00", no 5 8)
    -- 6 at 8
    ∷ (read "0A00000100016201010001620200", no 6 8)
    -- is U+1F600
    ∷ (scalar "EDA0BDEDB880", got (0x1F600 ∷ 6 ∷ []))
    -- `a\,b` with stops `,]`: string a, width 1, next place 2. `"\u0041"`: A, width 8.
    ∷ (token "a\\,b" later, got (1 ∷ 2 ∷ 8 ∷ ascii "a"))
    ∷ (token "\"\\u0041\"" default, got (8 ∷ 8 ∷ 8 ∷ ascii "A"))
    -- 0.1: 3FB999999999999A. `-0d`: all zero. `9007199254740993d`: 4340000000000000.
    ∷ (token "0.1" default, got (3 ∷ 3 ∷ 6 ∷ 0x3FB9_9999_9999_999A ∷ []))
    ∷ (token "-0d" default, got (3 ∷ 3 ∷ 6 ∷ 0 ∷ []))
    ∷ (token "9007199254740993d" default, got (17 ∷ 17 ∷ 6 ∷ 0x4340_0000_0000_0000 ∷ []))
    -- `{a:[1b,2b]}`: 11 consumed, 0A0000090001610100000002010200 (15 bytes)
    ∷ (parse "{a:[1b,2b]}", got (11 ∷ unhex "0A0000090001610100000002010200"))
    ∷ []

-- `marked`: the definitions answer each record as it says.
abbrev pub AreMarked : Type 0
AreMarked = map (λ r. answer_to r.0) records ≡ map (λ r. r.1) records
