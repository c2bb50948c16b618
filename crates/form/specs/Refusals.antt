-- What a refusal of the code means: its number in documents 01 and 02, and, with a place beside it, the answer of a step that refuses.
-- Assumes nothing.
use Rattle.std.specs.Prelude.{ℕ, Result, Ok, Err}
use Rattle.form.specs.Answer.{Out, got, no, data_ends, root_id, tag_id, bad_string, negative_count, name_twice, too_deep, table_full, over_limit, no_table, mixed_list, long_string, output_full, bad_query, bad_text, quote_open, unknown_escape, bad_number, unexpected_token, text_ends, trailing_comma, unmatched_brace, decimal_beyond, more_matches}
use Rattle.form.specs.declared.refusals.Refusal.{Refusal}
use Rattle.form.specs.declared.refusals.Refusal.TheVariants.{DataEnds, RootId, TagId, BadString, NegativeCount, NameTwice, TooDeep, TableFull, OverLimit, NoTable, MixedList, LongString, OutputFull, BadQuery, BadText, QuoteOpen, UnknownEscape, BadNumber, UnexpectedToken, TextEnds, TrailingComma, UnmatchedBrace, DecimalBeyond, MoreMatches, BadLine, NotCut, RootCut}
use Rattle.form.specs.declared.refusals.Refused.{Refused}

-- The number of each refusal: those of 01 by name, then those of 02 ([6], [11]).
abbrev pub number_of : Refusal → ℕ
number_of DataEnds = data_ends
number_of RootId = root_id
number_of TagId = tag_id
number_of BadString = bad_string
number_of NegativeCount = negative_count
number_of NameTwice = name_twice
number_of TooDeep = too_deep
number_of TableFull = table_full
number_of OverLimit = over_limit
number_of NoTable = no_table
number_of MixedList = mixed_list
number_of LongString = long_string
number_of OutputFull = output_full
number_of BadQuery = bad_query
number_of BadText = bad_text
number_of QuoteOpen = quote_open
number_of UnknownEscape = unknown_escape
number_of BadNumber = bad_number
number_of UnexpectedToken = unexpected_token
number_of TextEnds = text_ends
number_of TrailingComma = trailing_comma
number_of UnmatchedBrace = unmatched_brace
number_of DecimalBeyond = decimal_beyond
number_of MoreMatches = more_matches
number_of BadLine = 29
number_of NotCut = 31
number_of RootCut = 32

-- The answer of a step by the code's: what a value means, or the refusal's number and place.
abbrev pub out_of : {A B : Type 0} → (A → B) → Result A Refused → Out B
out_of f (Ok x) = got (f x)
out_of f (Err e) = no (number_of e.refusal) e.place
