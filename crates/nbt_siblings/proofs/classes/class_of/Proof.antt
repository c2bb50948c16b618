-- `class_of` meets its contract.
-- Assumes nothing.
use Rattle.nbt_siblings.specs.Names.{name_of}
use borrow.Author.Rules.{rules}
use Rattle.nbt_siblings.proofs.classes.class_of.Statement.{statement}
use Rattle.nbt_siblings.proofs.classes.class_of.Tie as tie

returns : tie.Need-returns
unfolding name_of
returns c = rw (c.before.before.word.ensures, c.before.word-2.ensures) at c.class_span.ensures

pub class_of_spec : {M : Type 1} → statement M
class_of_spec = tie.close (tie.spec (λ c κs. search rules) (λ c κs. search rules) (λ c κs. search rules) returns)
