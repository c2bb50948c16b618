-- Each way through the code is a law of the definition.
-- Assumes nothing.
use Rattle.std.proofs.Common.{sym, ◌∙◌, arith}
use Rattle.form.proofs.Fields.{leaf-string, leaf-array}
use Rattle.nbt_fields.proofs.leaf_at.Goals as goal

pub returns-in-8 : goal.returns-in-8
returns-in-8 c = c.string_at.ensures ∙ sym (leaf-string _ _ _ _ c.in-8.is)

pub returns-in_default : goal.returns-in_default
returns-in_default c = c.array_at.ensures ∙ rw c.width_of.ensures.0 (sym (leaf-array _ _ _ _ c.requires.0 (λ e. omega (arith, e))))
