-- Rules 10 to 12: the token that a text has at a place, and the content of a string token.
-- Every character that a rule names is ASCII, so the definitions walk over the text's bytes; a width counts the bytes that begin a character.
-- Assumes nothing.
use Rattle.std.specs.Prelude.{ℕ, zero, suc, ◌+◌, ◌-◌, ◌*◌, Bool, true, false, not, ◌&&◌, ◌||◌, List, [], ◌∷◌, ltb, leb, eqb, length, get_or, drop}
use Rattle.form.specs.Answer.{Out, got, no, ◌>>=◌, ◌>>◌, guard, pick, over_limit, output_full, bad_text, quote_open, unknown_escape, unexpected_token, text_ends, text_limit}
use Rattle.form.specs.Spans.{part}
unfoldable pub use Rattle.form.specs.Spans.{among}
use Rattle.form.specs.Strings.{encode_by, scalar_bytes}
use Rattle.form.specs.Decoding.{Sequence, is, stuck, utf8_of, utf8_verdict, is_good}
use Rattle.snbt_form.specs.Numbers.{Number, is_digit, number}

-- ---- characters

-- ASCII whitespace: tab, line feed, form feed, carriage return, space; 0x0B is none (rule 10).
abbrev pub blank : ℕ → Bool
blank b = among (9 ∷ 10 ∷ 12 ∷ 13 ∷ 32 ∷ []) b

-- 1 for a byte that begins a character of UTF-8, and 0 for one within it.
abbrev pub begins : ℕ → ℕ
begins b = pick (ltb b 128) 1 (pick (ltb b 192) 0 1)

-- The sets of characters that stop an unquoted token (rules 11 and 15).
pub data Stops : Type 0 where
  default : Stops
  key : Stops
  value : Stops
  first : Stops
  later : Stops

-- `{}[],;` by default; `:` for keys; `,}` for values; `,];` for first elements; `,]` for later ones. In ascending order.
abbrev pub stop_set : Stops → List ℕ
stop_set default = 44 ∷ 59 ∷ 91 ∷ 93 ∷ 123 ∷ 125 ∷ []
stop_set key = 58 ∷ []
stop_set value = 44 ∷ 125 ∷ []
stop_set first = 44 ∷ 59 ∷ 93 ∷ []
stop_set later = 44 ∷ 93 ∷ []

-- ---- tokens

-- A token: a sign, a string with whether it is quoted and its content's start and end, or a number.
pub data Token : Type 0 where
  open_curly : Token
  closed_curly : Token
  open_square : Token
  closed_square : Token
  comma : Token
  colon : Token
  semicolon : Token
  string : Bool → ℕ → ℕ → Token
  numeral : Number → Token

-- A token with its index in bytes and its width in characters (rule 10).
pub record TokenData : Type 0 where
  pub token : Token
  pub index : ℕ
  pub width : ℕ

-- A token and the next place; or the end of the text, placed there (rule 10).
pub data Lexed : Type 0 where
  found : TokenData → ℕ → Lexed
  ended : ℕ → Lexed

-- ---- rule 11: an unquoted token

-- How an unquoted token stands after some bytes: the levels that are open, whether a quote of either sort is open, whether a backslash stands
-- right before, the end of the token and its width so far.
pub record Scan : Type 0 where
  pub curly : ℕ
  pub square : ℕ
  pub single : Bool
  pub double : Bool
  pub escape : Bool
  pub end : ℕ
  pub width : ℕ

-- Whether a quote is open.
abbrev pub within_quotes : Scan → Bool
within_quotes s = s.single || s.double

-- Whether a byte ends the token: a stop character at level 0 outside quotes.
abbrev pub stops : Stops → Scan → ℕ → Bool
stops set s b = not (within_quotes s) && (eqb s.curly 0 && (eqb s.square 0 && among (stop_set set) b))

-- The quotes and the backslash set to some; the rest stays.
abbrev pub marked : Scan → Bool → Bool → Bool → Scan
marked s single double escape = record {
  curly = s.curly;
  square = s.square;
  single = single;
  double = double;
  escape = escape;
  end = s.end;
  width = s.width;
}

-- A single quote, 39, opens or closes, unless a backslash stands before it or the other sort is open.
abbrev pub quote_single : Scan → Scan
quote_single s = marked s (pick (s.escape || s.double) s.single (not s.single)) s.double false

-- The same for a double quote, 34.
abbrev pub quote_double : Scan → Scan
quote_double s = marked s s.single (pick (s.escape || s.single) s.double (not s.double)) false

-- A level after a byte: one up at the opening brace, one down at the closing one, never below 0; unchanged within quotes.
abbrev pub level : Scan → ℕ → ℕ → ℕ → ℕ → ℕ
level s opening closing b n = pick (within_quotes s) n (pick (eqb b opening) (n + 1) (pick (eqb b closing) (n - 1) n))

-- Any other byte at i: the braces count, the backslash's effect ends, and one that is not blank extends the token and adds its width.
abbrev pub grown : Scan → ℕ → ℕ → Scan
grown s b i = record {
  curly = level s 123 125 b s.curly;
  square = level s 91 93 b s.square;
  single = s.single;
  double = s.double;
  escape = false;
  end = pick (blank b) s.end (i + 1);
  width = pick (blank b) s.width (s.width + begins b);
}

-- The scan after a byte at i that does not stop it: a backslash, 92, and quotes extend neither token nor width.
unfoldable pub after : Scan → ℕ → ℕ → Scan
after s b i =
    pick (eqb b 92) (marked s s.single s.double true)
    (pick (eqb b 39) (quote_single s) (pick (eqb b 34) (quote_double s) (grown s b i)))

-- Where an unquoted token ends, its width, and the next place.
pub record Word : Type 0 where
  pub end : ℕ
  pub width : ℕ
  pub next : ℕ

-- What a scan comes to where it ends, at i.
abbrev pub word_of : Scan → ℕ → Word
word_of s i = record { end = s.end; width = s.width; next = i }

-- The bytes from i on, up to a stop character or the text's end.
unfoldable pub slurp : Stops → List ℕ → Scan → ℕ → Word
slurp set [] s i = word_of s i
slurp set (b ∷ l) s i = pick (stops set s b) (word_of s i) (slurp set l (after s b i) (i + 1))

-- The first character is taken unexamined; the rest of its bytes are no stop characters, so taking one byte is enough.
abbrev pub begun : ℕ → Scan
begun i = record { curly = 0; square = 0; single = false; double = false; escape = false; end = i + 1; width = 1 }

-- The unquoted token at i.
unfoldable pub word : Stops → List ℕ → ℕ → Word
word set t i = slurp set (drop (i + 1) t) (begun i) (i + 1)

-- Rule 13's division: an unquoted token that begins with a minus or a digit is a number, else a string.
abbrev pub unquoted : List ℕ → ℕ → ℕ → Out Token
unquoted t i e =
    pick (eqb (get_or t i 0) 45 || is_digit (get_or t i 0))
    (do
      n ← number (part t i (e - i)) i
      got (numeral n))
    (got (string false i e))

-- ---- rule 12: a quoted token

-- What a backslash begins: an escape's scalar value and how many bytes it takes; a refusal; or nothing, where the bytes end behind it.
pub data Escape : Type 0 where
  stands : ℕ → ℕ → Escape
  bad : ℕ → ℕ → Escape
  cut : Escape

-- A hexadecimal digit of either case, and 16 for any other byte.
unfoldable pub hex_of : ℕ → ℕ
hex_of b =
    pick (ltb b 48) 16
    (pick (ltb b 58) (b - 48)
    (pick (ltb b 65) 16
    (pick (ltb b 71) (b - 55)
    (pick (ltb b 97) 16
    (pick (ltb b 103) (b - 87) 16)))))

-- n hexadecimal digits from p on, behind the digits of v: where the bytes end among them 20 there, at any other byte 19.
unfoldable pub hexes : ℕ → ℕ → List ℕ → ℕ → Out ℕ
hexes zero v l p = got v
hexes (suc n) v [] p = no text_ends p
hexes (suc n) v (b ∷ l) p = pick (ltb (hex_of b) 16) (hexes n (v * 16 + hex_of b) l (p + 1)) (no unexpected_token p)

-- `\uXXXX` with its backslash at p: a surrogate is no scalar value, 17.
abbrev pub unicode : Out ℕ → ℕ → Escape
unicode (got v) p = pick (leb 55296 v && ltb v 57344) (bad unknown_escape p) (stands v 6)
unicode (no n q) p = bad n q

-- The escape whose backslash stands at p, by the bytes behind that: `\' \" \\ \n \r \t \uXXXX`, any other 17.
unfoldable pub escape_of : List ℕ → ℕ → Escape
escape_of [] p = cut
escape_of (b ∷ l) p =
    pick (eqb b 117) (unicode (hexes 4 0 l (p + 2)) p)
    (pick (among (34 ∷ 39 ∷ 92 ∷ []) b) (stands b 2)
    (pick (eqb b 110) (stands 10 2) (pick (eqb b 114) (stands 13 2) (pick (eqb b 116) (stands 9 2) (bad unknown_escape p)))))

-- Where a quoted content ends, which is its closing quote's place, and the token's width.
pub record Quoted : Type 0 where
  pub end : ℕ
  pub width : ℕ

-- Goes on behind an escape, each of whose bytes is a character; a text that ends behind the backslash leaves the quote open, 16.
abbrev pub on_escape : (ℕ → Out Quoted) → ℕ → Escape → Out Quoted
on_escape k start (stands c n) = k n
on_escape k start (bad n p) = no n p
on_escape k start cut = no quote_open start

-- The bytes from i on up to the closing quote q, of the token at `start`, w its width so far. The first number bounds the turns.
unfoldable pub quoted_by : ℕ → ℕ → ℕ → List ℕ → ℕ → ℕ → Out Quoted
quoted_by zero start q l i w = no quote_open start
quoted_by (suc f) start q [] i w = no quote_open start
quoted_by (suc f) start q (b ∷ l) i w =
    pick (eqb b q) (got (record { end = i; width = w + 1 }))
    (on_escape (λ n. quoted_by f start q (drop n (b ∷ l)) (i + n) (w + pick (eqb b 92) n (begins b))) start
    (pick (eqb b 92) (escape_of l i) (stands b 1)))

-- The quoted token whose quote stands at i.
unfoldable pub quoted : List ℕ → ℕ → Out Quoted
quoted t i = quoted_by (suc (length t)) i (get_or t i 0) (drop (i + 1) t) (i + 1) 1

-- ---- the token at a place

-- The first place from i on that is not blank.
unfoldable pub skip_by : List ℕ → ℕ → ℕ
skip_by [] i = i
skip_by (b ∷ l) i = pick (blank b) (skip_by l (i + 1)) i

-- The same in a whole text (rule 10).
unfoldable pub skip : List ℕ → ℕ → ℕ
skip t i = skip_by (drop i t) i

-- A token at i of width w, and the next place.
abbrev pub made : Token → ℕ → ℕ → ℕ → Lexed
made k i w n = found (record { token = k; index = i; width = w }) n

-- A sign is a token by itself, of one character.
abbrev pub sign : Token → ℕ → Out Lexed
sign k i = got (made k i 1 (i + 1))

-- The unquoted token at i.
unfoldable pub unquoted_at : Stops → List ℕ → ℕ → Out Lexed
unquoted_at set t i = do
  k ← unquoted t i (word set t i).end
  got (made k i (word set t i).width (word set t i).next)

-- The quoted token at i, its content between the quotes.
unfoldable pub quoted_at : List ℕ → ℕ → Out Lexed
quoted_at t i = do
  r ← quoted t i
  got (made (string true (i + 1) r.end) i r.width (r.end + 1))

-- The token at i, which is not blank, by its first byte (rule 10).
unfoldable pub token_by : Stops → List ℕ → ℕ → ℕ → Out Lexed
token_by set t i b =
    pick (eqb b 44) (sign comma i)
    (pick (eqb b 58) (sign colon i)
    (pick (eqb b 59) (sign semicolon i)
    (pick (eqb b 91) (sign open_square i)
    (pick (eqb b 93) (sign closed_square i)
    (pick (eqb b 123) (sign open_curly i)
    (pick (eqb b 125) (sign closed_curly i)
    (pick (eqb b 34 || eqb b 39) (quoted_at t i) (unquoted_at set t i))))))))

-- The next token from a place on, in a text that is UTF-8: blanks are skipped, and the text's end is the end answer.
unfoldable pub token_at : Stops → List ℕ → ℕ → Out Lexed
token_at set t p = pick (leb (length t) (skip t p)) (got (ended (length t))) (token_by set t (skip t p) (get_or t (skip t p) 0))

-- A place is the text's end, or one at which a character begins.
abbrev pub on_character : List ℕ → ℕ → Bool
on_character t p = leb p (length t) && eqb (begins (get_or t p 0)) 1

-- A text within its limit (9), of UTF-8 (15).
unfoldable pub judged_text : List ℕ → Out (Unit {0})
judged_text t = do
  guard (leb (length t) text_limit) over_limit 0
  guard (is_good (utf8_verdict t)) bad_text 0

-- What a single token answers: 9, then 15, then the token or its refusal.
unfoldable pub lexed : List ℕ → ℕ → Stops → Out Lexed
lexed t start set = do
  judged_text t
  guard (on_character t start) bad_text 0
  token_at set t start

-- ---- a string token's content

-- A scalar value at the front of a content, and how many bytes it takes.
pub record Front : Type 0 where
  pub scalar : ℕ
  pub bytes : ℕ

-- A character as it is written in UTF-8.
abbrev pub character_of : Sequence → Out Front
character_of (is c n) = got (record { scalar = c; bytes = n })
character_of stuck = no bad_text 0

-- An escape, with its backslash at p; one that the content's end cuts is none, 17.
abbrev pub escaped : Escape → ℕ → Out Front
escaped (stands c n) p = got (record { scalar = c; bytes = n })
escaped (bad n q) p = no n q
escaped cut p = no unknown_escape p

-- What a content that is not empty begins with, at p: within quotes a backslash begins an escape.
unfoldable pub front_of : Bool → List ℕ → ℕ → Out Front
front_of inQuotes [] p = no bad_text 0
front_of inQuotes (b ∷ l) p = pick (inQuotes && eqb b 92) (escaped (escape_of l p) p) (character_of (utf8_of (b ∷ l)))

-- The scalar values of a content from p on. The first number bounds the turns.
unfoldable pub scalars_by : ℕ → Bool → List ℕ → ℕ → Out (List ℕ)
scalars_by zero inQuotes [] p = got []
scalars_by zero inQuotes (b ∷ l) p = no bad_text 0
scalars_by (suc f) inQuotes [] p = got []
scalars_by (suc f) inQuotes (b ∷ l) p = do
  x ← front_of inQuotes (b ∷ l) p
  cs ← scalars_by f inQuotes (drop x.bytes (b ∷ l)) (p + x.bytes)
  got (x.scalar ∷ cs)

-- The content of a string token from a start to an end, in rule 2's form.
unfoldable pub content_of : List ℕ → Bool → ℕ → ℕ → Out (List ℕ)
content_of t inQuotes start e = do
  cs ← scalars_by (e - start) inQuotes (part t start (e - start)) start
  got (encode_by scalar_bytes cs)

-- What a single content answers: 9; 15, also for a start or an end off a character, past the text or in the wrong order; a refusal of an
-- escape; 13 where there is no room for it.
unfoldable pub content : List ℕ → ℕ → ℕ → Bool → ℕ → Out (List ℕ)
content t start e inQuotes room = do
  judged_text t
  guard (on_character t start && (on_character t e && leb start e)) bad_text 0
  bs ← content_of t inQuotes start e
  guard (leb (length bs) room) output_full 0
  got bs
