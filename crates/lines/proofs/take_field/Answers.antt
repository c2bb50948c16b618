-- Right since the field ends where there is no more room, at a blank, or with the line.
-- Assumes nothing.
use Rattle.std.proofs.Common.{◌+◌, take, drop, set, sym, subst, arith}
use mathlib.Core.Path.{◌∙◌}
use Rattle.lines.proofs.Fields.{Sofar, sofar-start, sofar-next, sofar-blank, sofar-end, sofar-full, field-length, byte-there, field_is}
use Rattle.lines.proofs.take_field.Goals as goal

pub loop-i-init : goal.loop-i-init
loop-i-init c = (omega arith, sofar-start _ _)

pub returns-then-field-n : goal.returns-then-field-n
returns-then-field-n c = field_is _ _ _ _ _ _ (sofar-full _ _ _ _ c.loop-i.invariant.1 (omega arith))

pub returns-then-b-eq32 : goal.returns-then-b-eq32
returns-then-b-eq32 c =
    let a = c.args in
    let byte = byte-there a.line.now a.len a.from c.loop-i.n c.loop-i.i c.loop-i.invariant.0 (omega arith) in
    field_is _ _ _ _ _ _ (sofar-blank _ _ _ _ c.loop-i.invariant.1 byte.0 (byte.1 ∙ c.if-b-eq32.true))

pub loop-i-preserved : goal.loop-i-preserved
loop-i-preserved c =
    let a = c.args in
    let l = c.loop-i in
    let left = drop a.from (take a.len a.line.now) in
    let byte = byte-there a.line.now a.len a.from l.n l.i l.invariant.0 (omega arith) in (
      omega arith,
      subst (λ x. Sofar left a.field.now (set l.field l.n x) (l.n + 1)) byte.1
          (sofar-next left a.field.now l.field l.n l.invariant.1 byte.0 (omega arith) (λ e. c.if-b-eq32.false (sym byte.1 ∙ e))),
    )

pub returns : goal.returns
returns c =
    let a = c.args in
    field_is _ _ _ _ _ _ (sofar-end _ _ _ _ c.loop-i.invariant.1 (omega (arith, field-length a.line.now a.len a.from)))
