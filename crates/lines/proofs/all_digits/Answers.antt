-- Right since `all` asks of each of the first n bytes whether it is a digit.
-- Assumes nothing.
use Rattle.std.proofs.Common.{take, ltb, rules}
use mathlib.Core.Path.{◌∙◌}
use borrow.Author.Tests.{tests}
use Rattle.std.proofs.lemmas.Iterator.{YieldsList-from_slice}
use Rattle.std.proofs.lemmas.Iterator.Search.{all_from_yields_List}
use Rattle.lines.specs.Digits.{digit_of}
use Rattle.lines.proofs.Digits.{digits-all}
use Rattle.lines.proofs.all_digits.Goals as goal

pub returns : goal.returns
returns c =
    let first = take c.args.n c.args.line.now in
    all_from_yields_List (λ b. ltb (digit_of b) 16) _ _ _ c.all.ensures.ran (YieldsList-from_slice first cc) (λ x b q k. search (rules, tests))
    ∙ digits-all first
