-- `table_stored::word` meets its contract: the digits that it reads are those that the definition names.
-- Assumes nothing.
use Rattle.std.proofs.Common.{◌+◌, ◌*◌, ◌∙◌, ap, arith}
use Rattle.form.specs.Spans.{part}
use Rattle.form.specs.Stored.{hex_value}
use Rattle.table_stored.proofs.word.Goals as goal

pub overflow_mul-line_in : goal.overflow_mul-line_in
overflow_mul-line_in c = rw c.line_in.ensures (omega (arith, c.requires.fits))

pub overflow_add-line_in : goal.overflow_add-line_in
overflow_add-line_in c = rw c.line_in.ensures (omega (arith, c.requires.fits))

pub word_at-requires : goal.word_at-requires
word_at-requires c = rw c.line_in.ensures (c.requires.fits, c.requires.digits)

pub returns : goal.returns
returns c =
    let a = c.args in
    c.word_at.ensures ∙ ap (λ x. hex_value (part a.lines.now (x * a.n + 8 * a.k) 8)) c.line_in.ensures
