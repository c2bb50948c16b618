-- The answer of a step: a value, or a refusal with its number and its place; the answer of a call that counts; the refusals and the limits
-- of document 01 by name.
-- Assumes nothing.
use Rattle.std.specs.Prelude.{ℕ, Bool, true, false}

-- A value, or the number and the place of a refusal.
pub data Out (A : Type 0) : Type 0 where
  got : A → Out A
  no : ℕ → ℕ → Out A

infixl 20 ◌>>=◌ ◌>>◌
-- Goes on with the value; a refusal stays the answer. `do` chains by it, so the first line that refuses is the refusal.
abbrev pub ◌>>=◌ : {A B : Type 0} → Out A → (A → Out B) → Out B
◌>>=◌ (got a) k = k a
◌>>=◌ (no n p) k = no n p

-- The same where the value is not used.
abbrev pub ◌>>◌ : {A B : Type 0} → Out A → Out B → Out B
◌>>◌ (got a) r = r
◌>>◌ (no n p) r = no n p

-- Goes on where the test holds, and refuses with number n at place p where it fails.
abbrev pub guard : Bool → ℕ → ℕ → Out (Unit {0})
guard true n p = got tt
guard false n p = no n p

-- The first of two by a test.
abbrev pub pick : {A : Type 0} → Bool → A → A → A
pick true a b = a
pick false a b = b

-- What a call answers that counts: how many, or a refusal: its number, its place, and beside them the true count in 24, the record in a
-- write's 4 (02, [3]), and 0 in every other.
pub data Count : Type 0 where
  counted : ℕ → Count
  failed : ℕ → ℕ → ℕ → Count

-- ---- the refusals of 01, by name

abbrev pub data_ends : ℕ
data_ends = 1

abbrev pub root_id : ℕ
root_id = 2

abbrev pub tag_id : ℕ
tag_id = 3

abbrev pub bad_string : ℕ
bad_string = 4

abbrev pub negative_count : ℕ
negative_count = 5

abbrev pub name_twice : ℕ
name_twice = 6

abbrev pub too_deep : ℕ
too_deep = 7

abbrev pub table_full : ℕ
table_full = 8

abbrev pub over_limit : ℕ
over_limit = 9

abbrev pub no_table : ℕ
no_table = 10

abbrev pub mixed_list : ℕ
mixed_list = 11

abbrev pub long_string : ℕ
long_string = 12

abbrev pub output_full : ℕ
output_full = 13

abbrev pub bad_query : ℕ
bad_query = 14

abbrev pub bad_text : ℕ
bad_text = 15

abbrev pub quote_open : ℕ
quote_open = 16

abbrev pub unknown_escape : ℕ
unknown_escape = 17

abbrev pub bad_number : ℕ
bad_number = 18

abbrev pub unexpected_token : ℕ
unexpected_token = 19

abbrev pub text_ends : ℕ
text_ends = 20

abbrev pub trailing_comma : ℕ
trailing_comma = 21

abbrev pub unmatched_brace : ℕ
unmatched_brace = 22

abbrev pub decimal_beyond : ℕ
decimal_beyond = 23

abbrev pub more_matches : ℕ
more_matches = 24

-- ---- the limits of 01

-- The most bytes of a document.
abbrev pub document_limit : ℕ
document_limit = 16777216

-- The most bytes of a text.
abbrev pub text_limit : ℕ
text_limit = 1048576

-- The most steps of a query.
abbrev pub step_limit : ℕ
step_limit = 16

-- The most records of a table.
abbrev pub record_limit : ℕ
record_limit = 1048576

-- The most containers within each other, the root counted.
abbrev pub depth_limit : ℕ
depth_limit = 512

-- The most bytes of a string.
abbrev pub string_limit : ℕ
string_limit = 65535
