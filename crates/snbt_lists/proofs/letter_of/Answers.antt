-- `letter_of` meets its contract: only an unquoted string of one byte announces a width, by that byte.
-- Assumes nothing.
use Rattle.std.proofs.Common.{◌∙◌, ap}
use Rattle.snbt_placing.specs.Done.{bytes, ints, longs}
use Rattle.snbt_tokens.specs.Answers.{token_is}
use Rattle.snbt_lists.proofs.Letters.{width_of, by-letter}
use Rattle.snbt_lists.proofs.letter_of.Goals as goal

pub returns-in-66 : goal.returns-in-66
returns-in-66 c =
    let g = c.in-Str in
    ((λ room. by-letter c.args.text.now g.quoted g.start g.end (ap token_is g.is) c.if-quoted.false c.if-end-start.false room ∙ ap width_of c.in-66.is), bytes)

pub returns-in-73 : goal.returns-in-73
returns-in-73 c =
    let g = c.in-Str in
    ((λ room. by-letter c.args.text.now g.quoted g.start g.end (ap token_is g.is) c.if-quoted.false c.if-end-start.false room ∙ ap width_of c.in-73.is), ints)

pub returns-in-76 : goal.returns-in-76
returns-in-76 c =
    let g = c.in-Str in
    ((λ room. by-letter c.args.text.now g.quoted g.start g.end (ap token_is g.is) c.if-quoted.false c.if-end-start.false room ∙ ap width_of c.in-76.is), longs)
