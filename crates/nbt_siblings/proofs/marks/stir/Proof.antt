-- `stir` meets its contract.
-- Assumes nothing.
use mathlib.Core.Path.{refl}
use Rattle.nbt_siblings.specs.Cells.{stir_of}
use borrow.Author.Rules.{rules}
use Rattle.nbt_siblings.proofs.marks.stir.Statement.{statement}
use Rattle.nbt_siblings.proofs.marks.stir.Tie as tie

returns : tie.Need-returns
unfolding stir_of
returns c = rw (c.fold-2.ensures, c.before.fold.ensures, c.before.before.mix.ensures) refl

pub stir_spec : {M : Type 1} → statement M
stir_spec = tie.close (tie.spec (λ c κs. search rules) (λ c κs. search rules) (λ c κs. search rules) returns)
