-- `replay_texts::print_case` is safe: the first bytes are as many as are asked for.
-- Assumes nothing.
use borrow.Author.Rules.{rules}
use mathlib.Core.Path.{sym}
use lib.Seq.{length-take-le}
use Rattle.replay_texts.proofs.print_case.Statement.{statement}
use Rattle.replay_texts.proofs.print_case.Tie as tie

pub print_case_spec : {M : Type 1} → statement M
print_case_spec =
    tie.close
    (tie.spec
    (λ c. sym (length-take-le _ _ (search rules)))
    (λ c. search rules)
    (λ c. sym (length-take-le _ _ (search rules)))
    (λ c κs. search rules)
    (λ c κs. search rules)
    (λ c. search rules)
    (λ c. search rules)
    (λ c. search rules))
