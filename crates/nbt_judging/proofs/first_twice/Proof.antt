-- Right since the search is asked only among the entries of a compound.
-- Assumes nothing.
use borrow.Author.Rules.{rules}
use mathlib.Core.Path.{refl, sym, ◌∙◌}
use Rattle.nbt_judging.proofs.Pieces.{twice-entries, twice-elements}
use Rattle.nbt_judging.proofs.first_twice.Statement.{statement}
use Rattle.nbt_judging.proofs.first_twice.Tie as tie

first_repeat-requires : tie.Need-first_repeat-requires
first_repeat-requires c κs =
    c.requires c.if-list.false

returns-2 : tie.Need-returns
returns-2 c =
    let found = c.first_repeat.ensures in
    (found.0 ∙ sym (twice-entries _ _ _ _ _ c.if-list.false), found.1)

pub first_twice_spec : {M : Type 1} → statement M
first_twice_spec =
    tie.close
    (tie.spec
    (λ c. (sym (twice-elements _ _ _ _ _ c.if-list.true), refl))
    first_repeat-requires
    (λ c. search rules)
    returns-2)
