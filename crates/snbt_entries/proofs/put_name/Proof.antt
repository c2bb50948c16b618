-- `put_name` meets its contract: where there is room the name stands behind its length.
-- Assumes nothing.
use native.Mathlib.Omega.{arith}
use borrow.Author.Rules.{rules}
use Rattle.snbt_entries.proofs.Closing.{name-over}
use Rattle.snbt_entries.proofs.put_name.Statement.{statement}
use Rattle.snbt_entries.proofs.put_name.Tie as tie

pub put_name_spec : {M : Type 1} → statement M
put_name_spec =
    tie.close
    (tie.spec
    (λ c. search rules)
    (λ c. search rules)
    (λ c. λ h. absurd (omega (arith, h, c.if-out-at.true)))
    (λ c κs. search rules)
    (λ c. search rules)
    (λ c κs. search rules)
    (λ c. search rules)
    (λ c.
    let at_copy = c.before.before in
    let at-put = let copied = at_copy.before.before in copied.before.before in
    let at-else = at-put.before.before in
    let s = at-else.before.before.before in
    let a = s.args in
    λ h. name-over a.out.now _ _ a.buffer.now a.at a.size s.requires.0 h at-put.put_number.ensures at_copy.copy.ensures))
