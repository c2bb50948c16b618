-- Rules 14 and 15: the document that a text means, and what refuses a text, in the order of its tokens.
-- `t` is the text and `room` the length of the output; `used` is how many bytes of the output the tokens so far have taken, so that 13 falls
-- on the token with which it passes the room. Structural on the containers that may still be opened.
-- Assumes nothing.
use Rattle.std.specs.Prelude.{ℕ, zero, suc, ◌+◌, ◌-◌, ◌/◌, ◌≡◌, Bool, true, false, not, ◌&&◌, ◌||◌, List, [], ◌∷◌, ltb, leb, eqb, ℤ, pos, negsuc, length, get_or, replicate}
use Rattle.std.specs.Float.{binary32, binary64}
use Rattle.std.specs.Float.Ieee.{to_bits}
use Rattle.form.specs.Answer.{Out, got, no, ◌>>=◌, ◌>>◌, guard, pick, name_twice, too_deep, mixed_list, long_string, output_full, unexpected_token, text_ends, trailing_comma, unmatched_brace}
use Rattle.form.specs.Answer.{depth_limit, string_limit}
use Rattle.form.specs.Numbers.{values_in}
use Rattle.form.specs.Spans.{same, over}
use Rattle.form.specs.Tree as tree
use Rattle.form.specs.Tree.{Tag, Tags, Entries, nil, more, entry, kind_of, Document}
use Rattle.form.specs.Layout.{payload, layout}
use Rattle.snbt_form.specs.Values.{to_single}
use Rattle.snbt_form.specs.Numbers.{Number, byte, short, int, long, float, double}
use Rattle.snbt_form.specs.Lexing.{Stops, default, key, value, first, later, Token, open_curly, closed_curly, open_square, closed_square, comma, colon, semicolon, string, numeral}
use Rattle.snbt_form.specs.Lexing.{TokenData, Lexed, found, ended, token_at, content_of, judged_text}

-- ---- what the definitions give

-- A value: its tag, the next place in the text, and the bytes used.
pub record Value : Type 0 where
  pub tag : Tag
  pub next : ℕ
  pub used : ℕ

-- The rest of a list.
pub record Row : Type 0 where
  pub tags : Tags
  pub next : ℕ
  pub used : ℕ

-- The rest of an array.
pub record Ints : Type 0 where
  pub values : List ℤ
  pub next : ℕ
  pub used : ℕ

-- The rest of a compound.
pub record Block : Type 0 where
  pub entries : Entries
  pub next : ℕ
  pub used : ℕ

-- A token and the next place.
pub record Next : Type 0 where
  pub td : TokenData
  pub next : ℕ

-- What follows an element or an entry: a comma or the closing brace, with its place and the next one.
pub data Then : Type 0 where
  goes_on : ℕ → ℕ → Then
  closes : ℕ → ℕ → Then

-- What stands last in an array or a compound that is being read: a comma at a place; or else, nothing or an element.
pub data Last : Type 0 where
  otherwise : Last
  after_comma : ℕ → Last

-- 21 at the comma, where one stands last (rules 14 and 15).
abbrev pub no_comma : Last → Out (Unit {0})
no_comma otherwise = got tt
no_comma (after_comma p) = no trailing_comma p

-- How a value is read: by the kind that it must have (0 for any), its first token, the next place and the bytes used.
abbrev pub Reads : Type 0
Reads = ℕ → TokenData → ℕ → ℕ → Out Value

-- ---- tokens

-- The character of a token that is a sign, and 0 for a string or a number.
abbrev pub sign_of : Token → ℕ
sign_of open_curly = 123
sign_of closed_curly = 125
sign_of open_square = 91
sign_of closed_square = 93
sign_of comma = 44
sign_of colon = 58
sign_of semicolon = 59
sign_of (string q a e) = 0
sign_of (numeral n) = 0

-- A token; or, at the text's end, refusal n at p.
abbrev pub or_else : Lexed → ℕ → ℕ → Out Next
or_else (found d m) n p = got (record { td = d; next = m })
or_else (ended q) n p = no n p

-- ---- scalars

-- An integer is in the range of w bytes.
abbrev pub in_range : ℕ → ℤ → Bool
in_range w (pos n) = ltb n (values_in w / 2)
in_range w (negsuc n) = ltb n (values_in w / 2)

-- A tag of an integer of w bytes; out of its range 19 (rule 15).
abbrev pub ranged : ℕ → ℤ → Tag → ℕ → Out Tag
ranged w z tag p = do
  guard (in_range w z) unexpected_token p
  got tag

-- The tag of a number; f rounds the double to a single (rule 13).
abbrev pub number_tag : Number → ℕ → Out Tag
number_tag (byte z) p = ranged 1 z (tree.byte z) p
number_tag (short z) p = ranged 2 z (tree.short z) p
number_tag (int z) p = ranged 4 z (tree.int z) p
number_tag (long z) p = ranged 8 z (tree.long z) p
number_tag (float x) p = got (tree.float (to_bits binary32 (to_single x)))
number_tag (double x) p = got (tree.double (to_bits binary64 x))

-- The kind of array that a number may stand in, by its width; 0 for none (rule 15: byte, int or long tokens).
abbrev pub array_width : Number → ℕ
array_width (byte z) = 1
array_width (short z) = 0
array_width (int z) = 4
array_width (long z) = 8
array_width (float x) = 0
array_width (double x) = 0

-- A whole number's value.
abbrev pub whole_in : Number → ℤ
whole_in (byte z) = z
whole_in (short z) = z
whole_in (int z) = z
whole_in (long z) = z
whole_in (float x) = pos 0
whole_in (double x) = pos 0

-- An array's element of w bytes at p: any other token and any other range is 11 (rule 14).
abbrev pub element_int : ℕ → Token → ℕ → Out ℤ
element_int w open_curly p = no mixed_list p
element_int w closed_curly p = no mixed_list p
element_int w open_square p = no mixed_list p
element_int w closed_square p = no mixed_list p
element_int w comma p = no mixed_list p
element_int w colon p = no mixed_list p
element_int w semicolon p = no mixed_list p
element_int w (string q a e) p = no mixed_list p
element_int w (numeral n) p = do
  guard (eqb (array_width n) w && in_range w (whole_in n)) mixed_list p
  got (whole_in n)

-- An array of elements of w bytes.
abbrev pub array_tag : ℕ → List ℤ → Tag
array_tag w vs = pick (eqb w 1) (tree.byte_array vs) (pick (eqb w 4) (tree.int_array vs) (tree.long_array vs))

-- A name is among those before.
unfoldable pub known : List ℕ → List (List ℕ) → Bool
known s [] = false
known s (n ∷ ns) = same n s || known s ns

module _ (t : List ℕ) (room : ℕ) where
  -- 13 at a token, where the bytes used pass the room.
  abbrev pub in_room : ℕ → ℕ → Out (Unit {0})
  in_room used p = guard (leb used room) output_full p

  -- The token that is due at p; at the text's end refusal n at q.
  unfoldable pub due : Stops → ℕ → ℕ → ℕ → Out Next
  due set p n q = do
    x ← token_at set t p
    or_else x n q

  -- What follows an element or an entry that ends at p: a comma, 44, or the closing brace; any other token is 19; at the text's end
  -- refusal n at q.
  unfoldable pub following : ℕ → ℕ → ℕ → ℕ → Out Then
  following closing p n q = do
    x ← due default p n q
    pick (eqb (sign_of x.td.token) 44) (got (goes_on x.td.index x.next))
        (pick (eqb (sign_of x.td.token) closing) (got (closes x.td.index x.next)) (no unexpected_token x.td.index))

  -- The content of a string token at p; over 65,535 bytes 12.
  unfoldable pub string_of : Bool → ℕ → ℕ → ℕ → Out (List ℕ)
  string_of q a e p = do
    s ← content_of t q a e
    guard (leb (length s) string_limit) long_string p
    got s

  -- The tag of a string or a number token at p; a sign is 19.
  unfoldable pub scalar_tag : Token → ℕ → Out Tag
  scalar_tag open_curly p = no unexpected_token p
  scalar_tag closed_curly p = no unexpected_token p
  scalar_tag open_square p = no unexpected_token p
  scalar_tag closed_square p = no unexpected_token p
  scalar_tag comma p = no unexpected_token p
  scalar_tag colon p = no unexpected_token p
  scalar_tag semicolon p = no unexpected_token p
  scalar_tag (string q a e) p = do
    s ← string_of q a e p
    got (tree.string s)
  scalar_tag (numeral n) p = number_tag n p

  -- A kind that differs from its list's is 11 at the element's token (rule 14).
  abbrev pub alike : ℕ → Tag → ℕ → Out (Unit {0})
  alike want tag p = guard (eqb want 0 || eqb (kind_of tag) want) mixed_list p

  -- A scalar: its own checks, then its kind, then its room.
  unfoldable pub scalar_value : Reads
  scalar_value want x n u = do
    tag ← scalar_tag x.token x.index
    alike want tag x.index
    in_room (u + length (payload tag)) x.index
    got (record { tag = tag; next = n; used = u + length (payload tag) })

  -- ---- arrays (rule 14)

  -- The rest of an array of elements of w bytes that `[` at `brace` opened, behind what stands last. Leading and doubled commas are taken.
  -- The first number bounds the turns.
  unfoldable pub ints_by : ℕ → ℕ → ℕ → Last → ℕ → ℕ → Out Ints
  ints_by zero w brace last p u = no 0 0
  ints_by (suc f) w brace last p u = do
    x ← due later p unmatched_brace brace
    elim (eqb (sign_of x.td.token) 44) [
      | true ↦ ints_by f w brace (after_comma x.td.index) x.next u
      | false ↦ elim (eqb (sign_of x.td.token) 93) [
        | true ↦ do
          no_comma last
          got (record { values = []; next = x.next; used = u })
        | false ↦ do
          z ← element_int w x.td.token x.td.index
          in_room (u + w) x.td.index
          r ← ints_by f w brace otherwise x.next (u + w)
          got (record { values = z ∷ r.values; next = r.next; used = r.used })
      ]
    ]

  -- An array from p on: its count, 4 bytes, is counted at `[`.
  unfoldable pub array_at : ℕ → ℕ → ℕ → ℕ → Out Value
  array_at w brace p u = do
    in_room (u + 4) brace
    r ← ints_by (suc (length t)) w brace otherwise p (u + 4)
    got (record { tag = array_tag w r.values; next = r.next; used = r.used })

  -- ---- lists (rules 14 and 15)

  -- The rest of a list behind an element of kind k that ends at p. The first number bounds the turns.
  unfoldable pub elements_by : ℕ → Reads → ℕ → ℕ → ℕ → Out Row
  elements_by zero val k p u = no 0 0
  elements_by (suc f) val k p u = do
    s ← following 93 p text_ends (length t)
    elim s [
      | closes i n ↦ got (record { tags = nil; next = n; used = u })
      | goes_on i n ↦ do
        x ← due later n text_ends (length t)
        v ← val k x.td x.next u
        r ← elements_by f val k v.next v.used
        got (record { tags = more v.tag r.tags; next = r.next; used = r.used })
    ]

  -- A list of which the first token was taken: empty at `]`, 93, else its first element sets the kind.
  unfoldable pub list_from : Reads → Next → ℕ → Out Value
  list_from val x u = elim (eqb (sign_of x.td.token) 93) [
    | true ↦ got (record { tag = tree.list nil; next = x.next; used = u })
    | false ↦ do
      v ← val 0 x.td x.next u
      r ← elements_by (suc (length t)) val (kind_of v.tag) v.next v.used
      got (record { tag = tree.list (more v.tag r.tags); next = r.next; used = r.used })
  ]

  -- A list whose `[` stands at `brace`, `left` containers being left: 7, then 13 for its head of 5 bytes, then what its first token means.
  unfoldable pub list_at : ℕ → Reads → ℕ → Lexed → ℕ → Out Value
  list_at left val brace x u = do
    guard (ltb 0 left) too_deep brace
    in_room (u + 5) brace
    y ← or_else x unmatched_brace brace
    list_from val y (u + 5)

  -- The width of the elements that an unquoted B, I or L announces; 0 for any other token.
  abbrev pub letter_width : Token → ℕ
  letter_width open_curly = 0
  letter_width closed_curly = 0
  letter_width open_square = 0
  letter_width closed_square = 0
  letter_width comma = 0
  letter_width colon = 0
  letter_width semicolon = 0
  letter_width (string q a e) =
      pick (not q && eqb e (a + 1))
      (pick (eqb (get_or t a 0) 66) 1 (pick (eqb (get_or t a 0) 73) 4 (pick (eqb (get_or t a 0) 76) 8 0)))
      0
  letter_width (numeral n) = 0

  -- What a `[` opens: an array of elements of some width, from a place on; or a list.
  pub data Opened : Type 0 where
    an_array : ℕ → ℕ → Opened
    a_list : Opened

  -- A `;`, 59, behind the letter makes it an array.
  abbrev pub with_semicolon : ℕ → Lexed → Opened
  with_semicolon w (ended p) = a_list
  with_semicolon w (found d n) = pick (eqb (sign_of d.token) 59) (an_array w n) a_list

  -- By the first token; after an unquoted B, I or L a second one is taken.
  abbrev pub opened_by : Lexed → Out Opened
  opened_by (ended p) = got a_list
  opened_by (found d n) = elim (eqb (letter_width d.token) 0) [
    | true ↦ got a_list
    | false ↦ do
      y ← token_at default t n
      got (with_semicolon (letter_width d.token) y)
  ]

  -- What stands behind a `[` at `brace`: the tokens are taken first.
  unfoldable pub square_at : ℕ → Reads → ℕ → ℕ → ℕ → Out Value
  square_at left val brace p u = do
    x ← token_at first t p
    o ← opened_by x
    elim o [
      | an_array w n ↦ array_at w brace n u
      | a_list ↦ list_at left val brace x u
    ]

  -- ---- compounds (rule 15)

  -- A key's content: a string, else 19, of at most 65,535 bytes, else 12.
  unfoldable pub key_of : Token → ℕ → Out (List ℕ)
  key_of open_curly p = no unexpected_token p
  key_of closed_curly p = no unexpected_token p
  key_of open_square p = no unexpected_token p
  key_of closed_square p = no unexpected_token p
  key_of comma p = no unexpected_token p
  key_of colon p = no unexpected_token p
  key_of semicolon p = no unexpected_token p
  key_of (string q a e) p = string_of q a e p
  key_of (numeral n) p = no unexpected_token p

  -- The place behind the `:`, 58, that a key needs.
  unfoldable pub colon_at : ℕ → ℕ → Out ℕ
  colon_at brace p = do
    x ← due default p unmatched_brace brace
    guard (eqb (sign_of x.td.token) 58) unexpected_token x.td.index
    got x.next

  -- The end of a compound at a `}`: its end byte is counted there.
  unfoldable pub close_at : ℕ → ℕ → ℕ → Out Block
  close_at p n u = do
    in_room (u + 1) p
    got (record { entries = tree.ended; next = n; used = u + 1 })

  -- What stands behind an entry: the end, or the entries that k reads from the comma on.
  abbrev pub behind : (ℕ → ℕ → Out Block) → ℕ → Then → Out Block
  behind k u (closes i n) = close_at i n u
  behind k u (goes_on i n) = k i n

  -- An entry by its key's token: the key (19, 12), repetition (6), the colon, then the value, with which id and name are counted.
  unfoldable pub entry_at : Reads → ℕ → List (List ℕ) → Next → ℕ → Out (List ℕ × Value)
  entry_at val brace earlier x u = do
    s ← key_of x.td.token x.td.index
    guard (not (known s earlier)) name_twice x.td.index
    p ← colon_at brace x.next
    y ← due value p text_ends (length t)
    v ← val 0 y.td y.next (u + (3 + length s))
    got (s, v)

  -- The rest of a compound whose `{` stands at `brace`, with the names so far, behind what stands last. The first number bounds the turns.
  unfoldable pub entries_by : ℕ → Reads → ℕ → List (List ℕ) → Last → ℕ → ℕ → Out Block
  entries_by zero val brace earlier last p u = no 0 0
  entries_by (suc f) val brace earlier last p u = do
    x ← due key p unmatched_brace brace
    elim (eqb (sign_of x.td.token) 125) [
      | true ↦ do
        no_comma last
        close_at x.td.index x.next u
      | false ↦ do
        e ← entry_at val brace earlier x u
        s ← following 125 e.1.next unmatched_brace brace
        r ← behind (λ i n. entries_by f val brace (e.0 ∷ earlier) (after_comma i) n e.1.used) e.1.used s
        got (record { entries = entry e.0 e.1.tag r.entries; next = r.next; used = r.used })
    ]

  -- A compound whose `{` stands at `brace`: 7, then 13 for the id and the name before it, then its entries.
  unfoldable pub compound_at : ℕ → Reads → ℕ → ℕ → ℕ → Out Block
  compound_at left val brace p u = do
    guard (ltb 0 left) too_deep brace
    in_room u brace
    entries_by (suc (length t)) val brace [] otherwise p u

  -- ---- values

  -- A value by its first token: a compound at `{`, 123, a list or an array at `[`, 91, else a scalar. Containers and arrays are read whole
  -- before their kind is compared.
  unfoldable pub value_by : ℕ → Reads → Reads
  value_by left val want x n u = elim (eqb (sign_of x.token) 123) [
    | true ↦ do
      b ← compound_at left val x.index n u
      alike want (tree.compound b.entries) x.index
      got (record { tag = tree.compound b.entries; next = b.next; used = b.used })
    | false ↦ elim (eqb (sign_of x.token) 91) [
      | true ↦ do
        v ← square_at left val x.index n u
        alike want v.tag x.index
        got v
      | false ↦ scalar_value want x n u
    ]
  ]

  -- Where so many containers are left. Where none is, no value within one is asked for.
  unfoldable pub value_at : ℕ → Reads
  value_at zero = value_by 0 (λ want x n u. no too_deep x.index)
  value_at (suc d) = value_by (suc d) (value_at d)

  -- A whole text: 9, 15, then `{`, else 19, or 20 if the text is blank. The root's id and empty name take 3 bytes.
  unfoldable pub parsed : Out Block
  parsed = do
    judged_text t
    x ← due default 0 text_ends (length t)
    guard (eqb (sign_of x.td.token) 123) unexpected_token x.td.index
    compound_at depth_limit (value_at (depth_limit - 1)) x.td.index x.next 3

-- ---- the promise of a parse

-- The document that a text means: its root has an empty name.
abbrev pub document_of : Block → Document
document_of b = record { name = []; root = b.entries }

-- The bytes of the text consumed through the root's `}`, and the bytes written to the output.
pub record Lengths : Type 0 where
  pub consumed : ℕ
  pub written : ℕ

-- What a parse answers of these, or its refusal.
abbrev pub lengths_of : Out Block → Out Lengths
lengths_of (got b) = got (record { consumed = b.next; written = b.used })
lengths_of (no n p) = no n p

-- The output after a parse: the document's layout from 0 on and the rest as it was; after a refusal all zero.
abbrev pub output_after : Out Block → List ℕ → List ℕ
output_after (got b) o = over o 0 (layout (document_of b))
output_after (no n p) o = replicate (length o) 0

-- The promise of a parse: the answer and every byte of the output.
pub record ParseIs (t o : List ℕ) (answer : Out Lengths) (o' : List ℕ) : Type 0 where
  pub answer_is : answer ≡ lengths_of (parsed t (length o))
  pub output_is : o' ≡ output_after (parsed t (length o)) o
