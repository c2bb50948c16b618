-- Right by the reader of each rule, which is told by the test of the form; in modified UTF-8 the value that was read tells how many bytes
-- it takes.
-- Assumes nothing.
use Rattle.std.proofs.Common.{sym, ap}
use mathlib.Core.Path.{◌∙◌}
use Rattle.form.specs.Form.{modified}
use Rattle.form.specs.Decoding.{is}
use Rattle.mutf8.proofs.Codings.{width}
use Rattle.mutf8.proofs.front_at.Goals as goal

pub returns-then-is_pocket : goal.returns-then-is_pocket
returns-then-is_pocket c = rw (sym c.is_pocket.ensures ∙ c.if-is_pocket.true) c.utf8_at.ensures

pub returns-in_err-front : goal.returns-in_err-front
returns-in_err-front c = rw (c.from_residual.ensures, sym c.is_pocket.ensures ∙ c.if-is_pocket.false) c.in_err-front.ensures

pub returns : goal.returns
returns c = let e = sym c.in_ok-front.ensures in
    rw (sym c.is_pocket.ensures ∙ c.if-is_pocket.false, e) (ap (is c.in_ok-front.front.value) (c.length_of.ensures ∙ sym (width modified _ _ _ e)))
