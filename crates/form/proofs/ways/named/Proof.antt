-- Right since a number that names no form is Java's, as 0 is.
-- Assumes nothing.
use borrow.Author.Rules.{rules}
use native.Mathlib.Omega.{arith}
use mathlib.Core.Path.{refl, sym, ◌∙◌}
use Rattle.form.proofs.ways.named.Statement.{statement}
use Rattle.form.proofs.ways.named.Tie as tie

returns : tie.Need-returns-then-is_pocket
returns c = let told = sym c.before.is_pocket.ensures ∙ c.if-is_pocket.true in (rw told refl, omega arith)

returns-2 : tie.Need-returns-else-is_pocket
returns-2 c = let told = sym c.before.is_pocket.ensures ∙ c.if-is_pocket.false in (rw told refl, omega arith)

pub named_spec : {M : Type 1} → statement M
named_spec = tie.close (tie.spec (λ c κs. search rules) returns returns-2)
