-- The eight words that each exported call answers with: the refusal's number and place, then the values of its answer. They name no type
-- of the code.
-- Assumes nothing.
use Rattle.std.specs.Prelude.{ℕ, List, [], ◌∷◌, true, false, eqb}
use Rattle.std.specs.Float.{binary64}
use Rattle.std.specs.Float.Ieee.{to_bits}
use Rattle.form.specs.Answer.{Out, got, no, pick, Count, counted, failed}
use Rattle.form.specs.Decoding.{Verdict, good, bad}
use Rattle.form.specs.Reading.{Counts}
use Rattle.form.specs.Cut as cut
use Rattle.form.specs.Cut.{Sizes, sizes}
use Rattle.form.specs.Numbers.{bits_of}
use Rattle.snbt_form.specs.Numbers.{byte, short, int, long, float, double}
use Rattle.snbt_form.specs.Lexing.{Stops, default, key, value, first, later, Token, open_curly, closed_curly, open_square, closed_square, comma, colon, semicolon, string, numeral, Lexed, found, ended}
use Rattle.snbt_form.specs.Text.{Lengths}

-- A call that is accepted with nothing to say but that.
abbrev pub accepted : List ℕ
accepted = 0 ∷ 0 ∷ 0 ∷ 0 ∷ 0 ∷ 0 ∷ 0 ∷ 0 ∷ []

-- A refusal: its number and its place, and all else 0.
abbrev pub refusal : ℕ → ℕ → List ℕ
refusal n p = n ∷ p ∷ 0 ∷ 0 ∷ 0 ∷ 0 ∷ 0 ∷ 0 ∷ []

-- A verdict on a string, whose refusal has the number n.
abbrev pub verdict_words : ℕ → Verdict → List ℕ
verdict_words n good = accepted
verdict_words n (bad k) = refusal n k

-- A read: the bytes consumed and the number of records.
abbrev pub read_words : Out Counts → List ℕ
read_words (got c) = 0 ∷ 0 ∷ c.consumed ∷ c.records ∷ 0 ∷ 0 ∷ 0 ∷ 0 ∷ []
read_words (no n p) = refusal n p

-- A content or lines: the number of bytes written, or of records read.
abbrev pub count_words : Out ℕ → List ℕ
count_words (got n) = 0 ∷ 0 ∷ n ∷ 0 ∷ 0 ∷ 0 ∷ 0 ∷ 0 ∷ []
count_words (no n p) = refusal n p

-- A write or a query: the number of bytes written or of matches; a refusal has the third word too, for the record of a write's 4 and the
-- true count in a query's 24.
abbrev pub beside_words : Count → List ℕ
beside_words (counted c) = 0 ∷ 0 ∷ c ∷ 0 ∷ 0 ∷ 0 ∷ 0 ∷ 0 ∷ []
beside_words (failed n p b) = n ∷ p ∷ b ∷ 0 ∷ 0 ∷ 0 ∷ 0 ∷ 0 ∷ []

-- A rescue: the number of bytes and the number of lines written; refusal 24 gives the true number of lines.
abbrev pub rescue_words : Sizes → List ℕ
rescue_words (sizes b l) = 0 ∷ 0 ∷ b ∷ l ∷ 0 ∷ 0 ∷ 0 ∷ 0 ∷ []
rescue_words (cut.failed n p c) = n ∷ p ∷ c ∷ 0 ∷ 0 ∷ 0 ∷ 0 ∷ 0 ∷ []

-- The number of a token in an answer: signs from 1, strings 8 and, quoted, 9, numbers from 10.
abbrev pub token_kind : Token → ℕ
token_kind open_curly = 1
token_kind closed_curly = 2
token_kind open_square = 3
token_kind closed_square = 4
token_kind comma = 5
token_kind colon = 6
token_kind semicolon = 7
token_kind (string false a e) = 8
token_kind (string true a e) = 9
token_kind (numeral (byte z)) = 10
token_kind (numeral (short z)) = 11
token_kind (numeral (int z)) = 12
token_kind (numeral (long z)) = 13
token_kind (numeral (float x)) = 14
token_kind (numeral (double x)) = 15

-- What a token carries: a string's content from its start up to its end, a whole number's 64 bits, a double's bits.
abbrev pub carried_first : Token → ℕ
carried_first open_curly = 0
carried_first closed_curly = 0
carried_first open_square = 0
carried_first closed_square = 0
carried_first comma = 0
carried_first colon = 0
carried_first semicolon = 0
carried_first (string q a e) = a
carried_first (numeral (byte z)) = bits_of 8 z
carried_first (numeral (short z)) = bits_of 8 z
carried_first (numeral (int z)) = bits_of 8 z
carried_first (numeral (long z)) = bits_of 8 z
carried_first (numeral (float x)) = to_bits binary64 x
carried_first (numeral (double x)) = to_bits binary64 x

abbrev pub carried_second : Token → ℕ
carried_second open_curly = 0
carried_second closed_curly = 0
carried_second open_square = 0
carried_second closed_square = 0
carried_second comma = 0
carried_second colon = 0
carried_second semicolon = 0
carried_second (string q a e) = e
carried_second (numeral n) = 0

-- A token: kind, index, width, next place and what it carries; the end has its place where a token has the next one.
abbrev pub token_words : Out Lexed → List ℕ
token_words (got (found d n)) = 0 ∷ 0 ∷ token_kind d.token ∷ d.index ∷ d.width ∷ n ∷ carried_first d.token ∷ carried_second d.token ∷ []
token_words (got (ended p)) = 0 ∷ 0 ∷ 0 ∷ 0 ∷ 0 ∷ p ∷ 0 ∷ 0 ∷ []
token_words (no n p) = refusal n p

-- The stop set of a number: 1 for keys, 2 for values, 3 for first elements, 4 for later ones, any other the default.
abbrev pub stops_of : ℕ → Stops
stops_of n = pick (eqb n 1) key (pick (eqb n 2) value (pick (eqb n 3) first (pick (eqb n 4) later default)))

-- A parse: the bytes of the text consumed and the length of the output.
abbrev pub parse_words : Out Lengths → List ℕ
parse_words (got l) = 0 ∷ 0 ∷ l.consumed ∷ l.written ∷ 0 ∷ 0 ∷ 0 ∷ 0 ∷ []
parse_words (no n p) = refusal n p
