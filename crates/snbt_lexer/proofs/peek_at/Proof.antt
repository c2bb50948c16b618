-- `peek_at` meets its contract: the byte at the first place that is not blank, or the end.
-- Assumes nothing.
use mathlib.Core.Path.{sym, ap, subst}
use Prim.Native.Nat.{ℕ, ◌≤◌}
use borrow.Author.Rules.{rules}
use lib.ListN.{length, get_or, get_or-eq_default}
use Rattle.snbt_lexer.proofs.peek_at.Statement.{statement}
use Rattle.snbt_lexer.proofs.peek_at.Tie as tie

pub peek_at_spec : {M : Type 1} → statement M
peek_at_spec =
    tie.close
    (tie.spec
    (λ c κs. search rules)
    (λ c. search rules)
    (λ c.
    let t = c.args.text.now in
    let is = c.skip_blank-place.ensures in
    record { place = is; byte = ap (λ (i : ℕ). get_or t i 0) is })
    (λ c.
    let t = c.args.text.now in
    let is = c.skip_blank-place.ensures in
    record { place = is; byte = sym (get_or-eq_default t 0 (subst (λ (i : ℕ). length t ≤ i) is c.if-place-text.false)) }))
