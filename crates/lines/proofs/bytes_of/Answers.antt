-- Right since it counts the bytes of `unhex`.
-- Assumes nothing.
use Rattle.std.proofs.Common.{ap}
use mathlib.Core.Path.{◌∙◌}
use Rattle.std.specs.Prelude.{unwrap_or}
use Rattle.lines.proofs.Digits.{count-is}
use Rattle.lines.proofs.bytes_of.Goals as goal

pub returns : goal.returns
returns c = record {
  answer = c.unwrap_or.ensures ∙ ap (λ r. unwrap_or r 1000000) c.unhex.ensures.answer ∙ count-is _;
  put = c.unhex.ensures.put;
}
