-- `names` meets its contract.
-- Assumes nothing.
use Rattle.nbt_siblings.specs.Names.{name_of}
use borrow.Author.Rules.{rules}
use Rattle.nbt_siblings.proofs.names.names.Statement.{statement}
use Rattle.nbt_siblings.proofs.names.names.Tie as tie

returns : tie.Need-returns
unfolding name_of
returns c =
    let w4 = c.before in
    let w3 = w4.before in
    let w2 = w3.before in
    let w1 = w2.before in
    rw (w1.word.ensures, w2.word-2.ensures, w3.word-3.ensures, w4.word-4.ensures) at c.spans.ensures

pub names_spec : {M : Type 1} → statement M
names_spec =
    tie.close
    (tie.spec
    (λ c κs. search rules)
    (λ c κs. search rules)
    (λ c κs. search rules)
    (λ c κs. search rules)
    (λ c κs. search rules)
    returns)
