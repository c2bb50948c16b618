-- `after_run` meets its contract: the end and the width move on by the run.
-- Assumes nothing.
use mathlib.Core.Path.{refl}
use borrow.Author.Rules.{rules}
use Rattle.snbt_lexer.proofs.words.after_run.Statement.{statement}
use Rattle.snbt_lexer.proofs.words.after_run.Tie as tie

pub after_run_spec : {M : Type 1} → statement M
after_run_spec = tie.close (tie.spec (λ c. search rules) (λ c κs. search rules) (λ c. rw c.wider-n.ensures refl))
