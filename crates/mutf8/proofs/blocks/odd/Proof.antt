-- Right since the greatest of the four answers is 0 only where each is.
-- Assumes nothing.
use native.Mathlib.Omega.{arith}
use borrow.Author.Rules.{rules}
use Rattle.plain.proofs.Plains.{raised-over}
use Rattle.mutf8.proofs.Alike.{fits-of}
use Rattle.mutf8.proofs.blocks.odd.Statement.{statement}
use Rattle.mutf8.proofs.blocks.odd.Tie as tie

-- each answer is 0 where the greatest is
returns : tie.Need-returns
returns c e =
    let at-barred = c.before in
    let at-raise = at-barred.before in
    let at-wrong = at-raise.before in
    let at-differ = at-wrong.before in
    let all = raised-over at-raise.raise.result at-barred.barred.result c.raise-2.result c.raise-2.ensures in
    let some = raised-over at-differ.differ.result at-wrong.wrong.result at-raise.raise.result at-raise.raise.ensures in
    fits-of at-differ.before.before.due.ensures at-differ.before.follows.ensures
    (at-differ.differ.ensures (omega (arith, e, all, some))) (at-wrong.wrong.ensures (omega (arith, e, all, some)))
    (at-barred.barred.ensures (omega (arith, e, all)))

pub odd_spec : {M : Type 1} → statement M
odd_spec =
    tie.close
    (tie.spec
    (λ c κs. search rules)
    (λ c κs. search rules)
    (λ c κs. search rules)
    (λ c κs. search rules)
    (λ c κs. search rules)
    (λ c κs. search rules)
    (λ c κs. search rules)
    returns)
