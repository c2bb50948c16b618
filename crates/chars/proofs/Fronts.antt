-- What a call's answer says, by the case that a `match` took of it.
-- Assumes nothing.
use mathlib.Core.Path.{◌≡◌, sym, ap, ◌∙◌}
use Rattle.form.specs.Decoding.{Sequence}
use Rattle.std.specs.Prelude.{Option}
use Rattle.chars.specs.declared.Character.{Character}
use Rattle.chars.specs.Answers.{sequence_of}

pub told : {r : Option Character} {x : Sequence} (v : Option Character) → sequence_of r ≡ x → r ≡ v → x ≡ sequence_of v
told v e g = sym e ∙ ap sequence_of g
