-- The code's tokens and answers as those of the definitions, case by case.
-- Assumes nothing.
use Rattle.std.specs.Prelude.{Option, Some, None, Result}
use Rattle.form.specs.Answer.{Out}
use Rattle.form.specs.Refusals.{out_of}
use Rattle.form.specs.declared.refusals.Refused.{Refused}
use Rattle.snbt_form.specs.Numbers as numbers
use Rattle.snbt_form.specs.Lexing as rule
use Rattle.snbt_form.specs.Text as text
use Rattle.snbt_tokens.specs.declared.Token.{Token}
use Rattle.snbt_tokens.specs.declared.Token.TheVariants.{OpenCurly, ClosedCurly, OpenSquare, ClosedSquare, Comma, Colon, Semicolon, Str, Byte, Short, Int, Long, Float, Double}
use Rattle.snbt_tokens.specs.declared.TokenData.{TokenData}
use Rattle.snbt_tokens.specs.declared.Lexed.{Lexed}
use Rattle.snbt_tokens.specs.declared.Lexed.TheVariants.{Found, Ended}
use Rattle.snbt_tokens.specs.declared.Index.{Index}
use Rattle.snbt_tokens.specs.declared.Stops.{Stops}
use Rattle.snbt_tokens.specs.declared.Stops.TheVariants.{Default, Key, Value, First, Later}

-- A token of rules 10 to 13.
abbrev pub token_is : Token → rule.Token
token_is OpenCurly = rule.open_curly
token_is ClosedCurly = rule.closed_curly
token_is OpenSquare = rule.open_square
token_is ClosedSquare = rule.closed_square
token_is Comma = rule.comma
token_is Colon = rule.colon
token_is Semicolon = rule.semicolon
token_is (Str q a e) = rule.string q a e
token_is (Byte z) = rule.numeral (numbers.byte z)
token_is (Short z) = rule.numeral (numbers.short z)
token_is (Int z) = rule.numeral (numbers.int z)
token_is (Long z) = rule.numeral (numbers.long z)
token_is (Float x) = rule.numeral (numbers.float x)
token_is (Double x) = rule.numeral (numbers.double x)

-- A token with its index and its width.
abbrev pub data_is : TokenData → rule.TokenData
data_is d = record { token = token_is d.token; index = d.index.0; width = d.char_width.0 }

-- What stands next: a token and the next place, or the end.
abbrev pub lexed_is : Lexed → rule.Lexed
lexed_is (Found d n) = rule.found (data_is d) n
lexed_is (Ended p) = rule.ended p

-- The lexer's answer: what stands next, or a refusal's number and place.
abbrev pub lexed_out : Result Lexed Refused → Out rule.Lexed
lexed_out r = out_of lexed_is r

-- A stop set.
abbrev pub stops_is : Stops → rule.Stops
stops_is Default = rule.default
stops_is Key = rule.key
stops_is Value = rule.value
stops_is First = rule.first
stops_is Later = rule.later

-- What stands last in an array or a compound: the comma of an index; or else, nothing or an element (rules 14 and 15).
abbrev pub last_is : Option Index → text.Last
last_is None = text.otherwise
last_is (Some i) = text.after_comma i.0
